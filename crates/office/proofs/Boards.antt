-- The newest event of a journal is posted.
use Rattle.std.proofs.Common.{◌≡◌, ℕ, ◌+◌, ◌-◌, List, [], ◌∷◌, ◌++◌, Bool, Option, Some, None, zero, suc, is_some, length, refl, sym, ap, ◌∙◌, subst, arith}
use Rattle.std.specs.Prelude.{MatchOption, IfSome, slice_get, unwrap_or}
use Rattle.std.proofs.lemmas.List.{length_push}
use Rattle.crossbeam_utils.specs.Seq.{cell_view}
use Rattle.batch_core.specs.declared.event.Event.{Event}
use Rattle.batch_core.specs.Core.{Core, start}
use Rattle.batch_core.specs.Events.{Allowed, Legal, replay, step}
use Rattle.operator_board.specs.declared.tallies.Tallies.{Tallies}
use Rattle.operator_board.specs.declared.rule.BoardView.{BoardView}
use Rattle.operator_board.specs.Tallies.{AddsUp, tallies}
use Rattle.operator_board.specs.Rule.{state_of, with_event}
use Rattle.office.specs.declared.posting.Posting.{Posting}
use Rattle.office.specs.Posted.{HasPosted, LacksNewest}
use Rattle.office.specs.Shown.{IsPosted, Shows}
use Rattle.office.specs.Register.{RegisterView}

-- the last of a legal list of events is allowed behind those before it
legal_last : (events : List Event) (core : Core) (event : Event) → Legal core (events ++ event ∷ []) → Allowed (replay core events) event
legal_last [] core event legal = legal.0
legal_last (first ∷ events) core event legal = legal_last events (step core first) event legal.1

-- it is the last by its place too
at_end : {X : Type 0} (xs : List X) (x : X) → slice_get (xs ++ x ∷ []) (length (xs ++ x ∷ []) - 1) ≡ Some x
at_end xs x = ap (slice_get (xs ++ x ∷ [])) (omega (arith, length_push xs x)) ∙ there xs
  where
    there : (ys : List _) → slice_get (ys ++ x ∷ []) (length ys) ≡ Some x
    there [] = refl
    there (y ∷ ys) = there ys

newest_is : (r : RegisterView) (v : BoardView) (lacks : LacksNewest r v) (event : Event) → Some event ≡ slice_get r.journal (length r.journal - 1) → event ≡ lacks.newest
newest_is r v lacks event found =
    ap (λ (o : Option Event). unwrap_or o event) (found ∙ ap (λ (es : List Event). slice_get es (length es - 1)) lacks.journal ∙ at_end lacks.earlier lacks.newest)

-- there is a newest event
pub some_newest : (r : RegisterView) (v : BoardView) → LacksNewest r v → None ≡ slice_get r.journal (length r.journal - 1) → ⊥
some_newest r v lacks none =
    let bad : None ≡ Some lacks.newest = none ∙ ap (λ (es : List Event). slice_get es (length es - 1)) lacks.journal ∙ at_end lacks.earlier lacks.newest in
    cc

-- it may be posted
pub may_post : (r : RegisterView) (v : BoardView) (event : Event) → LacksNewest r v → Legal (start r.core.openings) r.journal → Some event ≡ slice_get r.journal (length r.journal - 1) → Allowed (state_of v) event
may_post r v event lacks legal found =
    let may = legal_last lacks.earlier (start r.core.openings) lacks.newest (subst (λ (es : List Event). Legal (start r.core.openings) es) lacks.journal legal) in
    let earlier = subst (λ (es : List Event). Allowed (replay (start r.core.openings) es) lacks.newest) (sym lacks.posted.events_are) may in
    subst (λ (e : Event). Allowed (state_of v) e) (sym (newest_is r v lacks event found))
    (subst (λ (openings : List ℕ). Allowed (replay (start openings) v.events) lacks.newest) (sym lacks.posted.openings_are) earlier)

-- and then the whole journal is posted
pub all_posted : (r : RegisterView) (v w : BoardView) (event : Event) → LacksNewest r v → Some event ≡ slice_get r.journal (length r.journal - 1) → w ≡ with_event v event → HasPosted r.core.openings r.journal w
all_posted r v w event lacks found is = record {
  openings_are = ap (λ (u : BoardView). u.openings) is ∙ lacks.posted.openings_are;
  events_are =
      ap (λ (u : BoardView). u.events) is
      ∙ ap (λ (es : List Event). es ++ event ∷ []) lacks.posted.events_are
      ∙ ap (λ (e : Event). lacks.earlier ++ e ∷ []) (newest_is r v lacks event found)
      ∙ sym lacks.journal;
}

-- where a register has one event more, its board lacks that
pub lacks_newest : (r r' next : RegisterView) (event : Event) (posting : Option Posting) → r' ≡ next → next.journal ≡ r.journal ++ event ∷ [] → next.core.openings ≡ r.core.openings → IsPosted r posting
    → IfSome posting (λ p. LacksNewest r' (cell_view p.writer.pass))
lacks_newest r r' next event None is more same posted = tt
lacks_newest r r' next event (Some p) is more same posted = record {
  earlier = r.journal;
  newest = event;
  journal = ap (λ (x : RegisterView). x.journal) is ∙ more;
  posted = record { openings_are = posted.openings_are ∙ sym (ap (λ (x : RegisterView). x.core.openings) is ∙ same); events_are = posted.events_are };
}

-- whether there is a board stays
pub shows_on : {boarded : Bool} {r r' : RegisterView} {posting posting' : Option Posting} → Shows boarded r posting → is_some posting' ≡ is_some posting → IsPosted r' posting' → Shows boarded r' posting'
shows_on was there posted = record { there = there ∙ was.there; posted = posted }

-- nothing changes that is on a board or may be read there
pub shows_same : {boarded : Bool} {r r' : RegisterView} {posting : Option Posting} → r' ≡ r → Shows boarded r posting → Shows boarded r' posting
shows_same {boarded} {r} {r'} {posting} same was = subst (λ (x : RegisterView). Shows boarded x posting) (sym same) was

-- what a read changes and gives
abbrev pub Reading : Option Posting → Option Posting → Option Tallies → Type 0
Reading old new found = MatchOption old ((new ≡ None) × (found ≡ None)) (λ p. (q : Posting) × (new ≡ Some q) × (cell_view q.writer.pass ≡ cell_view p.writer.pass) × (found ≡ Some (tallies (cell_view p.writer.pass).events)))

pub shows_read : (boarded : Bool) (r : RegisterView) (old new : Option Posting) (found : Option Tallies) → Shows boarded r old → Reading old new found → Shows boarded r new
shows_read boarded r None new found was m = subst (Shows boarded r) (sym m.0) was
shows_read boarded r (Some p) new found was m = subst (Shows boarded r) (sym m.1) (record {
  there = was.there;
  posted = record { openings_are = ap (λ (u : BoardView). u.openings) m.2 ∙ was.posted.openings_are; events_are = ap (λ (u : BoardView). u.events) m.2 ∙ was.posted.events_are };
})

-- there is something to read exactly where there is a board, and it is the tallies of the journal
pub read_there : (boarded : Bool) (r : RegisterView) (old new : Option Posting) (found : Option Tallies) → Shows boarded r old → Reading old new found → is_some found ≡ boarded
read_there boarded r None new found was m = ap is_some m.1 ∙ was.there
read_there boarded r (Some p) new found was m = ap is_some m.3 ∙ was.there

pub read_is : (boarded : Bool) (r : RegisterView) (old new : Option Posting) (found : Option Tallies) → Shows boarded r old → Reading old new found → IfSome found (λ t. t ≡ tallies r.journal)
read_is boarded r None new found was m = subst (λ (o : Option Tallies). IfSome o (λ t. t ≡ tallies r.journal)) (sym m.1) tt
read_is boarded r (Some p) new found was m = subst (λ (o : Option Tallies). IfSome o (λ t. t ≡ tallies r.journal)) (sym m.3) (ap tallies was.posted.events_are)

pub read_adds_up : (boarded : Bool) (r : RegisterView) (old new : Option Posting) (found : Option Tallies) → Shows boarded r old → Reading old new found → AddsUp (tallies r.journal) → IfSome found AddsUp
read_adds_up boarded r None new found was m up = subst (λ (o : Option Tallies). IfSome o AddsUp) (sym m.1) tt
read_adds_up boarded r (Some p) new found was m up =
    subst (λ (o : Option Tallies). IfSome o AddsUp) (sym m.3) (subst (λ (events : List Event). AddsUp (tallies events)) (sym was.posted.events_are) up)
