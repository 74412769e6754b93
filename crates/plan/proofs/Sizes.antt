-- The largest floor has room for every floor.
use Rattle.std.proofs.Common.{ℕ, ◌*◌, ◌≤◌, mul-le-mul_right, one-mul, arith}
use Rattle.grid.specs.Sides.{GoodSide, slot_count}

-- at least a slot for each bay
pub bays_fit : (h w : ℕ) → GoodSide h → w ≤ slot_count h w
bays_fit h w H =
    let a : 1 * w ≤ 3 * h * w = mul-le-mul_right w (let x = H.0 in omega arith) in
    let b = one-mul w in
    omega arith
