-- What a push is refused for where updates wait: 25 after 8 and before 9, and 10 where no update falls in the frame. Assumes nothing.
use mathlib.Core.Path.{◌≡◌, refl, ap, ap₂, ◌∙◌}
use mathlib.Core.Logic.{◌⊎◌, ⊎_elim}
use mathlib.Core.Bool.{Bool, true, cond, not, ◌&&◌, ◌||◌, or-true}
use mathlib.Core.List.{List, [], ◌∷◌}
use Prim.Native.Nat.{ℕ}
use borrow.Author.Tests.{eq-eqb}
use lib.Dec.{eqb}
use Rattle.ieee.specs.Bounds.{All}
use Rattle.rules.specs.Leaves.{Leaves}
use Rattle.rules.specs.Samples.{State}
use Rattle.rules.specs.Refusals.{Args, Found, clear, stop, ◌then◌, unless, Announced, objects_match, counts_at, shape_at, walk, later, none_sent, never}
use Rattle.rules.specs.Calls.{updates_in, announced, found, push, asked, step}
use Rattle.rules.specs.Promises.{Refuses, AheadRefused}

module _ (L : Leaves) (r : State L) (a : Args) where
  abbrev sent : List Announced
  sent = announced L (updates_in L r a)

  -- what is found is what is answered
  stopped : (n y z : ℕ) → found L r a ≡ stop n y z → Refuses L r n y z (step L r (push a))
  stopped n y z e = record { answer = ap (λ (v : Found). (asked L v a r).answer) e; next = ap (λ (v : Found). (asked L v a r).next) e }

  -- 25, and 9 to 14
  abbrev rest : Bool → Found
  rest fits = unless fits 25 0 0 then later sent a.objects a.codes a.samples a.rate r.rate (L.shape r.meta)

  none_falls : (all : List Announced) (objects : ℕ) (codes : List ℕ) (us : List L.Update) → All (λ (u : L.Update). L.offset u ≡ never) us
      → none_sent all objects codes (announced L us) ≡ true
  none_falls all objects codes [] h = refl
  none_falls all objects codes (u ∷ us) h = ap₂ (λ (x y : Bool). x && y) (eq-eqb (L.offset u) never h.0) (none_falls all objects codes us h.1)

  rate_passes : (r.rate ≡ 0) ⊎ (r.rate ≡ a.rate) → (eqb r.rate 0 || eqb r.rate a.rate) ≡ true
  rate_passes = ⊎_elim
      (λ (e : r.rate ≡ 0). ap (λ (b : Bool). b || eqb r.rate a.rate) (eq-eqb r.rate 0 e))
      (λ (e : r.rate ≡ a.rate). ap (λ (b : Bool). eqb r.rate 0 || b) (eq-eqb r.rate a.rate e) ∙ or-true (eqb r.rate 0))

  -- 9 to 14 by the tests of 9 and 10
  abbrev late : Bool → Bool → Found
  late rate told =
      let first = shape_at sent a.objects a.codes 0 sent (L.shape r.meta) in
      unless rate 9 r.rate a.rate
      then unless told 10 0 0
      then counts_at sent a.objects a.codes 0 sent
      then unless (not (eqb a.samples 0)) 12 0 0
      then cond first.started (objects_match sent a.objects a.codes first) clear
      then walk sent a.objects a.codes a.samples 0 (L.shape r.meta)

  pub ahead_refused : AheadRefused L r a (step L r (push a))
  ahead_refused =
      record {
        earlier = λ n y z e. stopped n y z (ap (λ (v : Found). v then rest (L.fits r.clock.position a.samples r.waits a.meta)) e);
        many = λ e f. stopped 25 0 0 (ap₂ (λ (v : Found) (b : Bool). v then rest b) e f);
        silent = λ e f q s h. stopped 10 0 0
            (ap₂ (λ (v : Found) (b : Bool). v then rest b) e f
            ∙ ap₂ late (rate_passes q)
            (ap₂ (λ (x y : Bool). x || not y) s (none_falls sent a.objects a.codes (updates_in L r a) h)));
      }
