-- The bytes of an order record, and what reading and writing answer.
use Rattle.std.specs.Prelude.{◌≡◌, ℕ, ◌+◌, ◌-◌, ◌*◌, ◌/◌, ◌%◌, ◌^◌, ◌<◌, ◌≤◌, cond, ◌⊎◌, List, [], ◌∷◌, ◌++◌, length, take, drop, Ok, Err, Result, ◌==◌, slice_index, slice_index_or}
use Rattle.grid.specs.Sides.{GoodSides, slot_count}
use Rattle.rules.specs.Entries.{GoodWanted, GoodKinds}
use Rattle.orderfile.specs.declared.fault.OrderFault.{OrderFault}
use Rattle.orderfile.specs.declared.fault.OrderFault.TheVariants.{BadSides, BadLength, BadMark, BadVersion, NoRule, BadEntry, NoRoom, NoMemory}

-- A rule with its lists: the number rule's wanted carriers by slot, or the kind rule's kinds by carrier and masks by
-- slot.
pub data Lists : Type 0 where
  numbers : (wanted : List ℕ) → Lists
  kinds : (kinds masks : List ℕ) → Lists

-- What an order is to a reader.
pub record OrderView : Type 0 where
  pub height : ℕ
  pub width : ℕ
  pub lists : Lists

-- The format.

-- 16-bit entries, high byte first
abbrev pub words : List ℕ → List ℕ
words [] = []
words (e ∷ es) = e / 256 ∷ (e % 256 ∷ words es)

abbrev pub rule_number : Lists → ℕ
rule_number (numbers wanted) = 1
rule_number (kinds ks masks) = 2

abbrev pub list_bytes : Lists → List ℕ
list_bytes (numbers wanted) = words wanted
list_bytes (kinds ks masks) = ks ++ words masks

-- h - 1 in the high four bits, w - 1 in the low four
abbrev pub sides_byte : ℕ → ℕ → ℕ
sides_byte h w = (h - 1) * 16 + (w - 1)

-- the mark "LFO", the version 1, the sides and the rule, before the lists
abbrev pub header_bytes : ℕ → ℕ → ℕ → List ℕ
header_bytes h w rule = 76 ∷ (70 ∷ (79 ∷ (0 ∷ (1 ∷ (sides_byte h w ∷ (rule ∷ []))))))

abbrev pub record_bytes : OrderView → List ℕ
record_bytes o = header_bytes o.height o.width (rule_number o.lists) ++ list_bytes o.lists

-- each list has an entry for each of n slots or carriers
abbrev pub Sized : ℕ → Lists → Type 0
Sized n (numbers wanted) = length wanted ≡ n
Sized n (kinds ks masks) = (length ks ≡ n) × (length masks ≡ n)

-- every wanted carrier and every kind exists
abbrev pub GoodEntries : Lists → Type 0
GoodEntries (numbers wanted) = GoodWanted wanted
GoodEntries (kinds ks masks) = GoodKinds ks

-- entries have 16 bits
abbrev pub Words : List ℕ → Type 0
Words es = (s : ℕ) → s < length es → slice_index es s < 2 ^ 16

abbrev pub WordLists : Lists → Type 0
WordLists (numbers wanted) = Words wanted
WordLists (kinds ks masks) = Words masks

-- an order that a record can hold
pub record GoodOrder (o : OrderView) : Type 0 where
  pub sides : GoodSides o.height o.width
  pub sized : Sized (slot_count o.height o.width) o.lists
  pub entries : GoodEntries o.lists
  pub fits : WordLists o.lists

-- Reading. Its questions of the bytes, in their order.

abbrev pub Headed : List ℕ → Type 0
Headed bytes = 7 ≤ length bytes

abbrev pub Marked : List ℕ → Type 0
Marked bytes = (slice_index bytes 0 ≡ 76) × (slice_index bytes 1 ≡ 70) × (slice_index bytes 2 ≡ 79)

abbrev pub Versioned : List ℕ → Type 0
Versioned bytes = (slice_index bytes 3 ≡ 0) × (slice_index bytes 4 ≡ 1)

-- the number rule or the kind rule
abbrev pub Ruled : List ℕ → Type 0
Ruled bytes = (slice_index bytes 6 ≡ 1) ⊎ (slice_index bytes 6 ≡ 2)

-- how many slots the sides of the record make
abbrev pub slots_told : List ℕ → ℕ
slots_told bytes = slot_count (slice_index bytes 5 / 16 + 1) (slice_index bytes 5 % 16 + 1)

-- exactly the right length for the rule and the sides
abbrev pub Whole : List ℕ → Type 0
Whole bytes = length bytes ≡ 7 + cond (slice_index bytes 6 == 1) 2 3 * slots_told bytes

-- the 16-bit entry at a place
abbrev pub word_at : List ℕ → ℕ → ℕ
word_at bytes i = slice_index bytes i * 256 + slice_index bytes (i + 1)

-- every wanted carrier and every kind exists
pub record Entered (bytes : List ℕ) : Type 0 where
  pub wanted : slice_index_or bytes 6 0 ≡ 1 → (s : ℕ) → s < slots_told bytes → word_at bytes (7 + 2 * s) < slots_told bytes
  pub kinds : slice_index_or bytes 6 0 ≡ 2 → (c : ℕ) → c < slots_told bytes → slice_index bytes (7 + c) < 16

-- when reading refuses; want of memory comes after every other question
abbrev pub ReadRefused : List ℕ → OrderFault → Type 0
ReadRefused bytes BadSides = ⊥
ReadRefused bytes BadLength =
    (Headed bytes → ⊥) ⊎ (Headed bytes × Marked bytes × Versioned bytes × Ruled bytes × (Whole bytes → ⊥))
ReadRefused bytes BadMark = Headed bytes × (Marked bytes → ⊥)
ReadRefused bytes BadVersion = Headed bytes × Marked bytes × (Versioned bytes → ⊥)
ReadRefused bytes NoRule = Headed bytes × Marked bytes × Versioned bytes × (Ruled bytes → ⊥)
ReadRefused bytes BadEntry =
    Headed bytes × Marked bytes × Versioned bytes × Ruled bytes × Whole bytes × (Entered bytes → ⊥)
ReadRefused bytes NoRoom = ⊥
ReadRefused bytes NoMemory =
    Headed bytes × Marked bytes × Versioned bytes × Ruled bytes × Whole bytes × Entered bytes

abbrev pub Read : List ℕ → Result OrderView OrderFault → Type 0
Read bytes (Ok o) = GoodOrder o × (bytes ≡ record_bytes o)
Read bytes (Err f) = ReadRefused bytes f

-- Writing an order of these parts; a number rule has no kinds, so they are not looked at.

abbrev pub lists_of : ℕ → List ℕ → List ℕ → Lists
lists_of rule ks entries = cond (rule == 1) (numbers entries) (kinds ks entries)

abbrev pub order_of : ℕ → ℕ → ℕ → List ℕ → List ℕ → OrderView
order_of h w rule ks entries = record { height = h; width = w; lists = lists_of rule ks entries }

abbrev pub Known : ℕ → Type 0
Known rule = (rule ≡ 1) ⊎ (rule ≡ 2)

-- when writing refuses, for a buffer of so many bytes
abbrev pub WriteRefused : OrderView → ℕ → ℕ → OrderFault → Type 0
WriteRefused o rule room BadSides = GoodSides o.height o.width → ⊥
WriteRefused o rule room BadLength =
    GoodSides o.height o.width × Known rule × (Sized (slot_count o.height o.width) o.lists → ⊥)
WriteRefused o rule room BadMark = ⊥
WriteRefused o rule room BadVersion = ⊥
WriteRefused o rule room NoRule = GoodSides o.height o.width × (Known rule → ⊥)
WriteRefused o rule room BadEntry =
    GoodSides o.height o.width × Known rule × Sized (slot_count o.height o.width) o.lists
    × (GoodEntries o.lists → ⊥)
WriteRefused o rule room NoRoom = GoodOrder o × Known rule × (room < length (record_bytes o))
WriteRefused o rule room NoMemory = ⊥

-- an accepted write answers the record's length and changes no byte after it, a refused one no byte at all
abbrev pub Written : OrderView → ℕ → List ℕ → Result ℕ OrderFault → List ℕ → Type 0
Written o rule buffer (Ok n) after =
    GoodOrder o × Known rule × (n ≡ length (record_bytes o)) × (n ≤ length buffer)
    × (after ≡ record_bytes o ++ drop n buffer)
Written o rule buffer (Err f) after = WriteRefused o rule (length buffer) f × (after ≡ buffer)

-- The round trip.

-- reading what is the record of an order gives that order; only memory can be wanting
abbrev pub ReadsAs : OrderView → Result OrderView OrderFault → Type 0
ReadsAs o (Ok p) = p ≡ o
ReadsAs o (Err f) = f ≡ NoMemory

abbrev pub ReadsBack : OrderView → List ℕ → Type 0
ReadsBack o bytes = (answer : Result OrderView OrderFault) → Read bytes answer → ReadsAs o answer

-- writing an order that was read gives its bytes again; only room can be wanting
abbrev pub WritesAs : List ℕ → List ℕ → Result ℕ OrderFault → Type 0
WritesAs bytes after (Ok n) = take n after ≡ bytes
WritesAs bytes after (Err f) = f ≡ NoRoom

abbrev pub WritesBack : OrderView → List ℕ → Type 0
WritesBack o bytes =
    (buffer after : List ℕ) (answer : Result ℕ OrderFault)
    → Written o (rule_number o.lists) buffer answer after
    → WritesAs bytes after answer
