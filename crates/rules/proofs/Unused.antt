-- R-1: "7 never occurs again." No push is stopped by it on any renderer, and no call on any block answers it. Assumes nothing.
use Prim.Native.Nat.{ℕ, zero, suc, ◌+◌, ◌*◌}
use mathlib.Core.Path.{◌≡◌, refl, sym, ap, ◌∙◌}
use mathlib.Core.Bool.{Bool, true, false, cond, not, ◌||◌}
use mathlib.Core.List.{List, [], ◌∷◌}
use lib.Dec.{eqb, leb, ltb}
use lib.ListN.{length}
use native.Mathlib.Omega.{arith}
use Rattle.mixing.specs.FrameSamples.{all_pass}
use Rattle.beds.specs.Matching.{counted}
use Rattle.panning.specs.Setup.{Setup, hall_with, table_place, all_inside, all_apart}
use Rattle.rules.specs.Leaves.{Leaves, Shape}
use Rattle.rules.specs.Samples.{State}
use Rattle.rules.specs.Refusals.{Args, Found, clear, stop, ◌then◌, unless, room, sized, listed, early, beds_found, Announced, objects_match, counts_at, shape_at, walk, none_sent}
use Rattle.rules.specs.Refusals.{later}
use Rattle.rules.specs.Making.{table_words, hall_of, layout_found, table_found}
use Rattle.rules.specs.Calls.{Call, push, flush, reset, make, make_with, mark, find, Answer, refused, rendered, nothing, cleared, marked, place, updates_in, announced, found, numbered, alike_marks, asked, drained, making, marking, step}
use Rattle.rules.specs.BlockCalls.{Layout, out_of, stride_of, left, takes, made}

-- ---- what stops, if anything, is not 7

abbrev number : Found → ℕ
number clear = 0
number (stop n a b) = n

record Free (f : Found) : Type 0 where
  never : number f ≡ 7 → ⊥

none_stops : Free clear
none_stops = record { never = λ e. omega arith }

infixr 20 ◌and_then◌
◌and_then◌ : {f g : Found} → Free f → Free g → Free (f then g)
◌and_then◌ {f} {g} p q = by f p
  where
    by : (f : Found) → Free f → Free (f then g)
    by clear p = q
    by (stop n a b) p = p

-- a test of another number
other : (t : Bool) (n a b : ℕ) → (n ≡ 7 → ⊥) → Free (unless t n a b)
other true n a b p = none_stops
other false n a b p = record { never = p }

where_so : (t : Bool) {f : Found} → Free f → Free (cond t f clear)
where_so true p = p
where_so false p = none_stops

free_beds : (beds codes cs : List ℕ) → Free (beds_found beds codes cs)
free_beds beds codes [] = none_stops
free_beds beds codes (c ∷ cs) =
    (other (not (eqb (counted c codes) 0)) 13 (counted c beds) 0 (λ e. omega arith) and_then other (not (eqb c 6)) 14 c 0 (λ e. omega arith)) and_then free_beds beds codes cs

module _ (us : List Announced) (objects : ℕ) (codes : List ℕ) where
  free_objects : (s : Shape) → Free (objects_match us objects codes s)
  free_objects s = other (eqb s.objects objects) 11 s.objects objects (λ e. omega arith)

  free_counts : (t : ℕ) (vs : List Announced) → Free (counts_at us objects codes t vs)
  free_counts t [] = none_stops
  free_counts t (v ∷ vs) = where_so (eqb v.offset t) (free_objects v.shape) and_then free_counts t vs

  free_walk : (n t : ℕ) (s : Shape) → Free (walk us objects codes n t s)
  free_walk zero t s = none_stops
  free_walk (suc n) t s =
      let x = shape_at us objects codes t us s in
      free_counts t us and_then (where_so x.started (free_beds x.beds codes x.beds) and_then free_walk n (suc t) x)

  free_later : (n rate old : ℕ) (s : Shape) → Free (later us objects codes n rate old s)
  free_later n rate old s =
      let first = shape_at us objects codes 0 us s in
      other (eqb old 0 || eqb old rate) 9 old rate (λ e. omega arith)
      and_then other (s.started || not (none_sent us objects codes us)) 10 0 0 (λ e. omega arith)
      and_then free_counts 0 us
      and_then other (not (eqb n 0)) 12 0 0 (λ e. omega arith)
      and_then where_so first.started (free_objects first)
      and_then free_walk n 0 s

free_layout : (n : ℕ) → Free (layout_found n)
free_layout n = other (leb n 3) 15 0 0 (λ e. omega arith)

free_table : (n : ℕ) (t : List ℕ) → Free (table_found n t)
free_table n t =
    let sp = table_place (table_words t) in
    free_layout n
    and_then other (eqb (length t) 144) 16 0 0 (λ e. omega arith)
    and_then other (all_inside sp) 17 0 0 (λ e. omega arith)
    and_then other (all_apart sp) 18 0 0 (λ e. omega arith)

module _ (L : Leaves) where
  free_early : (r : State L) (a : Args) → Free (early L r a)
  free_early r a =
      other (room a.stride (length a.out)) 1 0 0 (λ e. omega arith)
      and_then other (sized a) 2 0 0 (λ e. omega arith)
      and_then other (listed a.rate) 3 0 0 (λ e. omega arith)
      and_then other (leb (r.clock.position + a.samples) 1099511627776) 4 0 0 (λ e. omega arith)
      and_then other (L.laid_out a.meta) 5 0 0 (λ e. omega arith)
      and_then other (L.in_range a.meta) 6 0 0 (λ e. omega arith)
      and_then other (all_pass a.pcm 0 ((length a.codes + a.objects) * a.samples)) 8 0 0 (λ e. omega arith)

  free_found : (r : State L) (a : Args) → Free (found L r a)
  free_found r a =
      free_early r a
      and_then other (L.fits r.clock.position a.samples r.waits a.meta) 25 0 0 (λ e. omega arith)
      and_then free_later (announced L (updates_in L r a)) a.objects a.codes a.samples a.rate r.rate (L.shape r.meta)

  pub no_seven : (r : State L) (a : Args) (x y : ℕ) → found L r a ≡ stop 7 x y → ⊥
  no_seven r a x y e = (free_found r a).never (ap number e)

-- ---- the same of every call

-- the number of a refusal, 0 of any other answer
abbrev pub number_of : Answer → ℕ
number_of (refused n a b) = n
number_of (rendered rs m) = 0
number_of nothing = 0
number_of cleared = 0
number_of (marked c) = 0
number_of (place p) = 0

module _ (L : Leaves) (B : Layout L) where
  of_push : (f : Found) (a : Args) (r : State L) → Free f → number_of (asked L f a r).answer ≡ 7 → ⊥
  of_push clear a r p e = omega arith
  of_push (stop n x y) a r p e = p.never e

  of_flush : (room idle : Bool) (r : State L) → number_of (drained L room idle r).answer ≡ 7 → ⊥
  of_flush false idle r e = omega arith
  of_flush true true r e = omega arith
  of_flush true false r e = omega arith

  of_making : (v : Found) (h : Setup) (r : State L) → Free v → number_of (making L v h r).answer ≡ 7 → ⊥
  of_making clear h r p e = omega arith
  of_making (stop n x y) h r p e = p.never e

  of_marking : (v known w : Bool) (d : ℕ) (r : State L) → number_of (marking L v known w d r).answer ≡ 7 → ⊥
  of_marking false known w d r e = omega arith
  of_marking true true w d r e = omega arith
  of_marking true false w d r e = omega arith

  of_step : (r : State L) (c : Call) → number_of (step L r c).answer ≡ 7 → ⊥
  of_step r (push a) e = of_push (found L r a) a r (free_found L r a) e
  of_step r (flush out stride) e = of_flush (room stride (length out)) (eqb r.pending.count 0) r e
  of_step r reset e = omega arith
  of_step r (make n) e = of_making (layout_found n) (hall_with n) r (free_layout n) e
  of_step r (make_with n t) e = of_making (table_found n t) (hall_of n t) r (free_table n t) e
  of_step r (mark w d) e = of_marking (ltb d (numbered L r)) (alike_marks w (L.wants d r.meta)) w d r e
  of_step r (find m) e = omega arith

  as_answered : (x : Answer) (s : State L) (out : List ℕ) (stride : ℕ) (b : List ℕ) → (left L B x s out stride b).answer ≡ x
  as_answered (refused n x y) s out stride b = refl
  as_answered (rendered rs m) s out stride b = refl
  as_answered nothing s out stride b = refl
  as_answered cleared s out stride b = refl
  as_answered (marked c) s out stride b = refl
  as_answered (place p) s out stride b = refl

  pub never_seven : (c : Call) (b : List ℕ) → number_of (made L B c b).answer ≡ 7 → ⊥
  never_seven c b = by (takes L B c b)
    where
      by : (t : Bool) → number_of
          (cond t (left L B (step L (B.decode b) c).answer (step L (B.decode b) c).next (out_of c) (stride_of c) b)
          (record { answer = refused 1 0 0; state = b; out = out_of c })).answer ≡ 7 → ⊥
      by true e = of_step (B.decode b) c (ap number_of (sym (as_answered (step L (B.decode b) c).answer _ _ _ b)) ∙ e)
      by false e = omega arith
