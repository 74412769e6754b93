-- What the parts of a record tell, once the questions before them are answered.
use Rattle.std.specs.Prelude.{◌≡◌, ℕ, ◌+◌, ◌/◌, ◌%◌, ◌⊎◌, List, map, Ok, Err, Result, slice_index, slice_index_or}
use Rattle.rules.specs.declared.any.AnyRule.{AnyRule}
use Rattle.orderfile.specs.Records.{Lists, rule_number, list_bytes, Sized, WordLists, GoodEntries, Headed, Marked, Versioned, word_at}
use Rattle.orderfile.specs.Orders.{rule_lists}
use Rattle.orderfile.specs.RuleNames.{rule_name_number}
use Rattle.orderfile.specs.declared.fault.OrderFault.{OrderFault}
use Rattle.orderfile.specs.declared.fault.OrderFault.TheVariants.{BadEntry, NoMemory}
use Rattle.orderfile.specs.declared.rule_name.RuleName.{RuleName}

-- the first bytes
pub record Told (bytes : List ℕ) (h w named : ℕ) : Type 0 where
  pub headed : Headed bytes
  pub marked : Marked bytes
  pub versioned : Versioned bytes
  pub rule : slice_index_or bytes 6 0 ≡ named
  pub height : h ≡ slice_index bytes 5 / 16 + 1
  pub width : w ≡ slice_index bytes 5 % 16 + 1

-- the 16-bit entries in pairs of bytes, high byte first
abbrev pub entries_in : List (List ℕ) → List ℕ
entries_in = map (λ (pair : List ℕ). word_at pair 0)

-- the bytes after the header are these lists, with an entry for each of n slots or carriers
pub record Held (name : RuleName) (n : ℕ) (body : List ℕ) (l : Lists) : Type 0 where
  pub rule : rule_number l ≡ rule_name_number name
  pub bytes : list_bytes l ≡ body
  pub sized : Sized n l
  pub fits : WordLists l

-- why these lists make no rule; memory is asked for last
abbrev pub Unmade : Lists → OrderFault → Type 0
Unmade l fault = ((fault ≡ BadEntry) × (GoodEntries l → ⊥)) ⊎ ((fault ≡ NoMemory) × GoodEntries l)

-- the rule of the lists that the bytes hold
abbrev pub RuleRead : RuleName → ℕ → List ℕ → Result AnyRule OrderFault → Type 0
RuleRead name n body (Ok rule) = Held name n body (rule_lists rule) × GoodEntries (rule_lists rule)
RuleRead name n body (Err fault) = (l : Lists) × Held name n body l × Unmade l fault
