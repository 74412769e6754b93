mod Rooms
mod Keeping
mod Exact
