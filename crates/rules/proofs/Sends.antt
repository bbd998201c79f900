-- An object's send: it is all that the object adds on channel 3, and nothing where the object's gain or send is zero. Assumes nothing.
use mathlib.Core.Path.{◌≡◌, refl, ap, ◌∙◌, subst, sym}
use mathlib.Core.Bool.{Bool, true, false, cond}
use mathlib.Core.List.{List, [], ◌∷◌, ◌++◌, append-nil}
use Prim.Native.Nat.{ℕ, ◌*◌}
use native.Mathlib.Nat.{le_refl}
use native.Mathlib.Omega.{arith}
use borrow.Author.Tests.{eqb-true}
use lib.Dec.{T, eqb, lit<, lit≤}
use lib.Ieee.{Float, eq}
use lib.Ieee.Bits.{is_true}
use Rattle.ieee.specs.Units.{One}
use Rattle.ieee.specs.Bounds.{Bounded, All}
use Rattle.ieee.proofs.Theorems.{mag_is, whole_grid, whole_less, mul_bounded, product_zero, zero_bits}
use Rattle.mixing.specs.Sums.{plus, total}
use Rattle.mixing.proofs.Theorems.{total_append}
use Rattle.panning.specs.Setup.{Setup, HallFits}
use Rattle.panning.specs.Terms.{Term, on_channel}
use Rattle.panning.proofs.Theorems.{no_bass}
use Rattle.panning.proofs.Tables.{gain8, size1}
use Rattle.rules.specs.Parts.{0·0}
use Rattle.rules.specs.Leaves.{Source}
use Rattle.rules.specs.Mix.{Moment, object_terms, send_of, object_adds, objects_on, beds_on, heard, fed, fed_by_beds}
use Rattle.rules.specs.Promises.{unsent}
use Rattle.rules.proofs.Owed.{InHall}
use Rattle.rules.proofs.TermBounds.{eight_bounded, Modest, panned_modest}

-- ---- what an object adds: the send on channel 3, and on any other what it is panned to

on_append : (c : ℕ) (ss ts : List Term) → on_channel c (ss ++ ts) ≡ on_channel c ss ++ on_channel c ts
unfolding on_channel
on_append c [] ts = refl
on_append c (s ∷ ss) ts = go (eqb c s.channel) (on_append c ss ts)
  where
    go : (b : Bool) → on_channel c (ss ++ ts) ≡ on_channel c ss ++ on_channel c ts →
        cond b (s.coefficient ∷ on_channel c (ss ++ ts)) (on_channel c (ss ++ ts)) ≡ cond b (s.coefficient ∷ on_channel c ss) (on_channel c ss) ++ on_channel c ts
    go true h = ap (λ (ks : List Float). s.coefficient ∷ ks) h
    go false h = h

pub panned_alone : (hall : Setup) (s : Source) (c : ℕ) → eqb c 3 ≡ false → object_adds hall s c ≡ on_channel c (object_terms hall s)
unfolding on_channel
panned_alone hall s c e = on_append c (object_terms hall s) _ ∙ rw e (append-nil (on_channel c (object_terms hall s)))

module _ (s : Source) (h : InHall s) where
  pub sent_alone : (hall : Setup) → HallFits hall → object_adds hall s 3 ≡ send_of s ∷ []
  unfolding object_terms on_channel
  sent_alone hall f =
      on_append 3 (object_terms hall s) _ ∙ ap (λ (ks : List Float). ks ++ (send_of s ∷ [])) (no_bass hall f s.place h.place s.gain s.size)

  send_bounded : Bounded (8 * One) (send_of s)
  send_bounded =
      let z = size1 s.send h.send in
      mul_bounded {b = One} (whole_grid 8 (lit< tt)) (whole_less 8 (lit≤ tt)) (le_refl (8 * One * One)) (eight_bounded s.gain h.gain)
      (record { f32 = z.f32; most = omega (arith, mag_is s.send, z.plus, z.most) })

  pub object_modest : (hall : Setup) → HallFits hall → (c : ℕ) → Modest (object_adds hall s c)
  unfolding object_terms
  object_modest hall f c = go (eqb c 3) refl
    where
      go : (b : Bool) → eqb c 3 ≡ b → Modest (object_adds hall s c)
      go true e =
          subst (λ (k : ℕ). Modest (object_adds hall s k)) (sym (eqb-true c 3 e)) (subst Modest (sym (sent_alone hall f)) (record { few = lit≤ tt; small = (send_bounded, tt) }))
      go false e =
          let p = panned_modest hall f s.place h.place s.gain s.size h.gain h.size c in
          subst Modest (sym (panned_alone hall s c e)) p

  -- "it gets nothing from an object whose gain or send is zero"
  send_nothing : T (unsent s) → T (eq (send_of s) 0·0)
  send_nothing z = product_zero s.gain s.send (gain8 s.gain h.gain).f32 (size1 s.send h.send).f32 z

  pub not_added : T (unsent s) → (b x : Float) → plus b (record { coef = send_of s; sample = x }) ≡ b
  not_added z b x = rw (zero_bits, is_true (eq (send_of s) 0·0) (send_nothing z))

-- ---- where no object is sent, the beds alone are fed

none_sent : (hall : Setup) → HallFits hall → (ss : List Source) (own : List Float) (b : Float) → All InHall ss → All (λ (s : Source). T (unsent s)) ss
    → total b (objects_on hall 3 ss own) ≡ b
none_sent hall f [] own b h z = refl
none_sent hall f (s ∷ ss) [] b h z = refl
none_sent hall f (s ∷ ss) (x ∷ own) b h z = rw (sent_alone s h.0 hall f, not_added s h.0 z.0 b x) (none_sent hall f ss own b h.1 z.1)

pub send_zero : (m : Moment) → HallFits m.hall → All InHall m.objects → All (λ (s : Source). T (unsent s)) m.objects → fed m ≡ fed_by_beds m
unfolding heard
send_zero m f h z =
    total_append (beds_on m.hall 3 m.beds m.codes m.inputs) (objects_on m.hall 3 m.objects m.own) 0·0
    ∙ none_sent m.hall f m.objects m.own (fed_by_beds m) h z
