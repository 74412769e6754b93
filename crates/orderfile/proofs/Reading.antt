-- From the bytes to the order that they hold.
use Rattle.std.proofs.Common.{◌≡◌, ℕ, zero, suc, ◌+◌, ◌*◌, ◌/◌, ◌<◌, cond, eqb, List, [], ◌∷◌, ◌++◌, length, All, get_or, take, drop, sym, refl, ap, ◌∙◌, subst, inl, inr, div-add-mod', arith}
use lib.Arith.{digits_div, digits_mod}
use Rattle.std.specs.Simd.{first_chunks}
use Rattle.std.proofs.lemmas.List.{drop_more, get_or-drop, get_or-map, length-map, length-drop, length-take-le, take-append-drop, get_or_append_left}
use Rattle.grid.specs.Sides.{GoodSides, slot_count}
use Rattle.rules.specs.Entries.{GoodWanted}
use Rattle.orderfile.specs.declared.fault.OrderFault.{OrderFault}
use Rattle.orderfile.specs.declared.rule_name.RuleName.{RuleName}
use Rattle.orderfile.specs.declared.rule_name.RuleName.TheVariants.{Number, Kind}
use Rattle.orderfile.specs.Records.{Lists, numbers, kinds, words, sides_byte, header_bytes, record_bytes, rule_number, GoodEntries, GoodOrder, Words, Ruled, Whole, slots_told, word_at, Entered, ReadRefused}
use Rattle.orderfile.specs.RuleNames.{rule_name_number, entry_size}
use Rattle.orderfile.specs.Reading.{Told, Held, Unmade, entries_in}
use Rattle.orderfile.proofs.Wording.{length_words}
use Rattle.orderfile.proofs.RoundTrip.{word_of}
use Rattle.orderfile.proofs.Writing.{good_order}

-- every number is a byte
abbrev pub Bytes : List ℕ → Type 0
Bytes bytes = (i : ℕ) → get_or bytes i 0 < 256

-- entries that are read from pairs of bytes are written as these again
pub words_paired : (k : ℕ) (bytes : List ℕ) → Bytes bytes → length bytes ≡ 2 * k → words (entries_in (first_chunks 2 k bytes)) ≡ bytes
words_paired zero [] small long = refl
words_paired zero (a ∷ bytes) small long = absurd (omega arith)
words_paired (suc k) [] small long = absurd (omega arith)
words_paired (suc k) (a ∷ []) small long = absurd (omega arith)
words_paired (suc k) (a ∷ (b ∷ bytes)) small long =
    let low : b < 256 = small 1 in
    let high = digits_div a low in
    let rest = digits_mod a low in
    let more = words_paired k bytes (λ i. small (suc (suc i))) (omega arith) in
    cc

pub words_fit : (bytes es : List ℕ) → Bytes bytes → words es ≡ bytes → Words es
words_fit bytes es small e s h =
    let high : get_or (words es) (2 * s) 0 < 256 = subst (λ (x : List ℕ). get_or x (2 * s) 0 < 256) (sym e) (small (2 * s)) in
    let low : get_or (words es) (2 * s + 1) 0 < 256 =
    subst (λ (x : List ℕ). get_or x (2 * s + 1) 0 < 256) (sym e) (small (2 * s + 1)) in
    omega (arith, word_of es s h)

-- an entry of the lists by its place in the record
word_after : (bytes : List ℕ) (s : ℕ) → word_at (drop 7 bytes) (2 * s) ≡ word_at bytes (7 + 2 * s)
word_after bytes s =
    let place : 7 + (2 * s + 1) ≡ 7 + 2 * s + 1 = omega arith in
    let low = get_or-drop 7 bytes (2 * s + 1) 0 ∙ ap (λ i. get_or bytes i 0) place in
    let high = get_or-drop 7 bytes (2 * s) 0 in
    cc

module _ (bytes : List ℕ) (h w : ℕ) (name : RuleName) (n : ℕ) (t : Told bytes h w (rule_name_number name)) (many : n ≡ slot_count h w) where
  told_slots : n ≡ slots_told bytes
  told_slots = let e = t.height in let f = t.width in many ∙ cc

  -- a record begins with its header
  header_first : bytes ≡ header_bytes h w (rule_name_number name) ++ drop 7 bytes
  header_first =
      let long = t.headed in
      let e0 = drop_more bytes 0 0 (omega arith) in
      let e1 = drop_more bytes 1 0 (omega arith) in
      let e2 = drop_more bytes 2 0 (omega arith) in
      let e3 = drop_more bytes 3 0 (omega arith) in
      let e4 = drop_more bytes 4 0 (omega arith) in
      let e5 = drop_more bytes 5 0 (omega arith) in
      let e6 = drop_more bytes 6 0 (omega arith) in
      let m0 = t.marked.0 in
      let m1 = t.marked.1 in
      let m2 = t.marked.2 in
      let v0 = t.versioned.0 in
      let v1 = t.versioned.1 in
      let r = t.rule in
      let sides : sides_byte h w ≡ get_or bytes 5 0 = omega (arith, t.height, t.width, div-add-mod' (get_or bytes 5 0) 16) in
      cc

  ruled : Ruled bytes
  ruled = by_name name t.rule
    where
      by_name : (x : RuleName) → get_or bytes 6 0 ≡ rule_name_number x → Ruled bytes
      by_name Number e = inl e
      by_name Kind e = inr e

  -- the length that is due
  due : 7 + cond (eqb (get_or bytes 6 0) 1) 2 3 * slots_told bytes ≡ 7 + entry_size name * n
  due =
      ap (λ x. 7 + cond (eqb x 1) 2 3 * slots_told bytes) t.rule
      ∙ ap (λ x. 7 + cond (eqb (rule_name_number name) 1) 2 3 * x) (sym told_slots)
      ∙ ap (λ x. 7 + x * n) (by_name name)
    where
      by_name : (x : RuleName) → cond (eqb (rule_name_number x) 1) 2 3 ≡ entry_size x
      by_name Number = refl
      by_name Kind = refl

  module _ (long : length bytes ≡ 7 + entry_size name * n) where
    whole : Whole bytes
    whole = long ∙ sym due

    -- the entries exist exactly where those of the lists do
    entered : (l : Lists) → Held name n (drop 7 bytes) l → GoodEntries l → Entered bytes
    entered (numbers wanted) held good =
        let e = told_slots in
        let size = held.sized in
        record {
          wanted = λ _ s in-n.
              let at : s < length wanted = omega arith in
              let same : word_at (words wanted) (2 * s) ≡ word_at (drop 7 bytes) (2 * s) = ap (λ (x : List ℕ). word_at x (2 * s)) held.bytes in
              omega (arith, word_of wanted s at, good s at, word_after bytes s);
          kinds = λ two. absurd (omega (arith, t.rule, held.rule));
        }
    entered (kinds ks masks) held good =
        let e = told_slots in
        let size = held.sized.0 in
        record {
          wanted = λ one. absurd (omega (arith, t.rule, held.rule));
          kinds = λ _ c in-n.
              let at : c < length ks = omega arith in
              let same : get_or ks c 0 ≡ get_or (drop 7 bytes) c 0 =
              sym (get_or_append_left ks (words masks) 0 c at) ∙ ap (λ (x : List ℕ). get_or x c 0) held.bytes in
              omega (arith, good c at, get_or-drop 7 bytes c 0);
        }

    good_lists : (l : Lists) → Held name n (drop 7 bytes) l → Entered bytes → GoodEntries l
    good_lists (numbers wanted) held all =
        λ s at.
        let e = told_slots in
        let size = held.sized in
        let same : word_at (words wanted) (2 * s) ≡ word_at (drop 7 bytes) (2 * s) = ap (λ (x : List ℕ). word_at x (2 * s)) held.bytes in
        let one : get_or bytes 6 0 ≡ 1 = t.rule ∙ sym held.rule in
        omega (arith, word_of wanted s at, all.wanted one s (omega arith), word_after bytes s)
    good_lists (kinds ks masks) held all =
        λ c at.
        let e = told_slots in
        let size = held.sized.0 in
        let same : get_or ks c 0 ≡ get_or (drop 7 bytes) c 0 =
        sym (get_or_append_left ks (words masks) 0 c at) ∙ ap (λ (x : List ℕ). get_or x c 0) held.bytes in
        let two : get_or bytes 6 0 ≡ 2 = t.rule ∙ sym held.rule in
        omega (arith, all.kinds two c (omega arith), get_or-drop 7 bytes c 0)

    pub rule_refused : (l : Lists) (fault : OrderFault) → Held name n (drop 7 bytes) l → Unmade l fault → ReadRefused bytes fault
    rule_refused l fault held (inl (is, bad)) =
        subst (λ (f : OrderFault). ReadRefused bytes f) (sym is)
        (t.headed, t.marked, t.versioned, ruled, whole, λ (all : Entered bytes). bad (good_lists l held all))
    rule_refused l fault held (inr (is, good)) =
        subst (λ (f : OrderFault). ReadRefused bytes f) (sym is)
        (t.headed, t.marked, t.versioned, ruled, whole, entered l held good)

    pub order_good : (l : Lists) → GoodSides h w → Held name n (drop 7 bytes) l → GoodEntries l → GoodOrder (record { height = h; width = w; lists = l })
    order_good l sides held good =
        good_order h w n l sides many held.sized good held.fits

    pub order_bytes : (l : Lists) → Held name n (drop 7 bytes) l → bytes ≡ record_bytes (record { height = h; width = w; lists = l })
    order_bytes l held =
        header_first
        ∙ ap (λ (k : ℕ). header_bytes h w k ++ drop 7 bytes) (sym held.rule)
        ∙ ap (λ (x : List ℕ). header_bytes h w (rule_number l) ++ x) (sym held.bytes)

abbrev pub pairs_of : List ℕ → List (List ℕ)
pairs_of bytes = first_chunks 2 (length bytes / 2) bytes

-- the entries that stand in bytes
abbrev pub entries_of : List ℕ → List ℕ
entries_of bytes = entries_in (pairs_of bytes)

words_of : (n : ℕ) (bytes : List ℕ) → Bytes bytes → length bytes ≡ 2 * n → words (entries_of bytes) ≡ bytes
words_of n bytes small long = words_paired (length bytes / 2) bytes small (omega arith)

abbrev pub PairsBelow : ℕ → List (List ℕ) → Type 0
PairsBelow limit pairs = All (λ (pair : List ℕ). word_at pair 0 < limit) pairs

-- wanted carriers that all exist, and that do not
pub wanted_good : (n : ℕ) (pairs : List (List ℕ)) → length (entries_in pairs) ≡ n → PairsBelow n pairs → GoodWanted (entries_in pairs)
wanted_good n pairs long all s h =
    let h' : s < length pairs = omega (arith, length-map pairs (λ (pair : List ℕ). word_at pair 0)) in
    omega (arith, all s [] h', get_or-map (λ (pair : List ℕ). word_at pair 0) pairs s [] 0 h')

pub pairs_below : (n : ℕ) (pairs : List (List ℕ)) → length (entries_in pairs) ≡ n → GoodWanted (entries_in pairs) → PairsBelow n pairs
pairs_below n pairs long good k d h =
    let h' : k < length (entries_in pairs) = omega (arith, length-map pairs (λ (pair : List ℕ). word_at pair 0)) in
    omega (arith, good k h', get_or-map (λ (pair : List ℕ). word_at pair 0) pairs k d 0 h)

pub length_wanted : (n : ℕ) (body : List ℕ) → Bytes body → length body ≡ 2 * n → length (entries_of body) ≡ n
length_wanted n body small long = omega (arith, ap length (words_of n body small long), length_words (entries_of body))

-- the lists that the bytes hold
pub wanted_in : (n : ℕ) (body : List ℕ) → Bytes body → length body ≡ 2 * n → Held Number n body (numbers (entries_of body))
wanted_in n body small long =
    let is = words_of n body small long in
    record {
      rule = refl;
      bytes = is;
      sized = length_wanted n body small long;
      fits = words_fit body (entries_of body) small is;
    }

pub kinds_in :
    (n : ℕ) (body : List ℕ) → Bytes body → length body ≡ 3 * n → Held Kind n body (kinds (take n body) (entries_of (drop n body)))
kinds_in n body small long =
    let back : Bytes (drop n body) = λ i. subst (λ x. x < 256) (sym (get_or-drop n body i 0)) (small (n + i)) in
    let is = words_of n (drop n body) back (omega (arith, length-drop n body)) in
    record {
      rule = refl;
      bytes = ap (λ (x : List ℕ). take n body ++ x) is ∙ take-append-drop n body;
      sized = (
        length-take-le n body (omega arith),
        omega (arith, ap length is, length_words (entries_of (drop n body)), length-drop n body),
      );
      fits = words_fit (drop n body) (entries_of (drop n body)) back is;
    }
