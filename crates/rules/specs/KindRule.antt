-- What a kind rule means, and when it is made.
use Rattle.std.specs.Prelude.{◌≡◌, ℕ, ◌/◌, ◌%◌, ◌^◌, Bool, true, false, ◌&&◌, List, length, Ok, Err, vec_items, Result, ◌==◌, nat_lt, slice_index, slice_index_or, refl}
use Rattle.std.proofs.Common.{ap, le-ltb}
use Rattle.rules.specs.Rules.{RuleView, Bounded}
use Rattle.rules.specs.Entries.{GoodKinds}
use Rattle.rules.specs.declared.fault.RuleFault.{RuleFault}
use Rattle.rules.specs.declared.kind.KindRule.{KindRule}

-- the mask's bit of a kind is one, bit 0 being the lowest
abbrev pub has_bit : ℕ → ℕ → Bool
has_bit mask kind = mask / 2 ^ kind % 2 == 1

-- slot s admits carrier c when its mask has the bit of the carrier's kind
abbrev pub masking : List ℕ → List ℕ → RuleView
masking kinds masks =
    record {
      slots = length masks;
      carriers = length kinds;
      admits = λ s c. nat_lt s (length masks) && (nat_lt c (length kinds) && has_bit (slice_index masks s) (slice_index kinds c));
    }

abbrev pub kind_meaning : KindRule → RuleView
kind_meaning r = masking (vec_items r.kinds) (vec_items r.masks)

abbrev pub KindMade : List ℕ → List ℕ → Result KindRule RuleFault → Type 0
KindMade kinds masks (Ok r) = (vec_items r.kinds ≡ kinds) × (vec_items r.masks ≡ masks)
KindMade kinds masks (Err f) = GoodKinds kinds → ⊥

and_no : (b x : Bool) → x ≡ false → b && x ≡ false
and_no true x h = h
and_no false x h = refl

masking_bounded : (kinds masks : List ℕ) → Bounded (masking kinds masks)
masking_bounded kinds masks =
    record {
      no_slot =
          λ s c h.
          ap (λ (b : Bool). b && (nat_lt c (length kinds) && has_bit (slice_index masks s) (slice_index kinds c)))
          (le-ltb s (length masks) h);
      no_carrier =
          λ s c h.
          and_no (nat_lt s (length masks)) (nat_lt c (length kinds) && has_bit (slice_index masks s) (slice_index kinds c))
          (ap (λ (b : Bool). b && has_bit (slice_index masks s) (slice_index kinds c)) (le-ltb c (length kinds) h));
    }

-- outside its numbers the rule replies no
pub kind_bounded : (r : KindRule) → Bounded (kind_meaning r)
kind_bounded r = masking_bounded (vec_items r.kinds) (vec_items r.masks)

-- the carriers of each kind are a class, and those that there are not are one more
abbrev pub kind_class : KindRule → ℕ → ℕ
kind_class r carrier = slice_index_or (vec_items r.kinds) carrier 16
