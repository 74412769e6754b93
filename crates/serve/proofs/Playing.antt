-- Calls played one after another.
use Rattle.std.proofs.Common.{◌≡◌, ℕ, suc, ◌+◌, ◌≤◌, List, [], ◌∷◌, ◌++◌, length, take, drop, Result, sym, refl, ap, ◌∙◌, subst, add-one, arith}
use Rattle.std.proofs.lemmas.List.{take_at}
use Rattle.grid.specs.declared.square.Square.{Square}
use Rattle.deck.specs.Decks.{DeckView, SameFloor, Unmoved}
use Rattle.rules.specs.Rules.{RuleView}
use Rattle.chain.specs.declared.fault.FloorFault.{FloorFault}
use Rattle.chain.specs.Calls.{Ordered}
use Rattle.chain.specs.Floors.{FloorView}
use Rattle.chain.specs.Sheets.{Event}
use Rattle.chain.specs.Chains.{Chain}
use Rattle.serve.specs.Served.{Account, Leads, Keeps, Told, Served}
use Rattle.serve.specs.declared.Ending.TheVariants.{Stopped, Spent}

-- so many calls were played from o and z to f and v
pub record Run (o : FloorView) (z : DeckView) (before : Account) (f : FloorView) (v : DeckView) (after : Account) (n : ℕ) : Type 0 where
  pub events : List Event
  pub squares : ℕ → Square
  pub chain : Chain o z f v events squares
  pub account : Keeps o z before events f v after
  pub count : length events ≡ n

pub run_none : (o : FloorView) (z : DeckView) (before : Account) → Run o z before o z before 0
run_none o z before =
    record { events = []; squares = z.square; chain = Chain.opened; account = λ es a. a; count = refl }

module _ (o : FloorView) (z : DeckView) (before : Account) (f : FloorView) (v : DeckView) (middle : Account) (n : ℕ) (r : Run o z before f v middle n)
    (g : FloorView) (w : DeckView) (after : Account) where
  pub run_more :
      (e : Event) → Leads f v (e ∷ []) g w → Keeps f v middle (e ∷ []) g w after → Run o z before g w after (n + 1)
  run_more e leads keeps =
      let next = leads o z r.events r.squares r.chain in
      record {
        events = e ∷ r.events;
        squares = next.0;
        chain = next.1;
        account = λ es a. keeps (r.events ++ es) (r.account es a);
        count = ap suc r.count ∙ sym (add-one n);
      }

  pub run_still : Leads f v [] g w → Keeps f v middle [] g w after → Run o z before g w after n
  run_still leads keeps =
      let next = leads o z r.events r.squares r.chain in
      record {
        events = r.events;
        squares = next.0;
        chain = next.1;
        account = λ es a. keeps (r.events ++ es) (r.account es a);
        count = r.count;
      }

-- marks that were lent and came back as they were
pub marks_back :
    (items last : List ℕ) (n : ℕ) → n ≡ length items → last ≡ items → take n (last ++ drop (length last) items) ≡ items
marks_back items last n long same =
    ap (λ (x : List ℕ). take n (x ++ drop (length x) items)) same ∙ take_at items (drop (length items) items) n (sym long)

-- an order was made, and told with the marks that came back
pub order_told :
    (f g : FloorView) (v : DeckView) (before after : Account) (chosen : List ℕ → Type 0) (r : RuleView)
    (answer : Result ℕ FloorFault) (marks lent told : List ℕ)
    → chosen marks
    → lent ≡ marks
    → told ≡ marks
    → Ordered f v r lent answer g
    → ((f' : FloorView) (es : List Event)
    → before f' v es
    → chosen told
    → Ordered f' v r told answer g
    → after g v (Event.order r told answer ∷ es))
    → Told f v before g v after
order_told f g v before after chosen r answer marks lent told choice lent_is told_is is tell =
    let is_told : Ordered f v r told answer g = subst (λ (m : List ℕ). Ordered f v r m answer g) (lent_is ∙ sym told_is) is in
    let choice_told : chosen told = subst chosen (sym told_is) choice in (
      Event.order r told answer,
      (λ o z es q chain. (_, Chain.ordered r told answer chain is_told)),
      (λ es kept. tell f es kept choice_told is_told),
    )

-- the source moved no carrier
pub still_leads : (f : FloorView) (v w : DeckView) → SameFloor v w → Unmoved v w → Leads f v [] f w
still_leads f v w same still o z es q chain = (q, Chain.drifted chain same still)

-- what playing comes to
pub stopped :
    (o : FloorView) (z : DeckView) (before : Account) (f : FloorView) (v : DeckView) (after : Account) (over : Type 0) (n budget : ℕ)
    → Run o z before f v after n
    → n ≤ budget
    → over
    → Served o z before f v after over budget Stopped
stopped o z before f v after over n budget r few end =
    let e = r.count in
    record { events = r.events; squares = r.squares; chain = r.chain; account = r.account; ended = (end, omega arith) }

pub spent :
    (o : FloorView) (z : DeckView) (before : Account) (f : FloorView) (v : DeckView) (after : Account) (over : Type 0) (n budget : ℕ)
    → Run o z before f v after n
    → n ≡ budget
    → Served o z before f v after over budget Spent
spent o z before f v after over n budget r all =
    record { events = r.events; squares = r.squares; chain = r.chain; account = r.account; ended = r.count ∙ all }
