-- The lists of a record that is to be written.
use Rattle.orderfile.specs.Records.{Lists, numbers, kinds}
use Rattle.orderfile.specs.declared.lists.RecordLists.{RecordLists}
use Rattle.orderfile.specs.declared.lists.RecordLists.TheVariants.{Wanted, Kinds}

abbrev pub shown_lists : RecordLists → Lists
shown_lists (Wanted wanted) = numbers wanted.now
shown_lists (Kinds ks masks) = kinds ks.now masks.now
