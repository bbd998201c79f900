-- The state block: the rules' ranges of a renderer are those of the layout, and of the area of what waits (R-12). Assumes nothing.
use Prim.Native.Nat.{ℕ, ◌+◌, ◌-◌}
use mathlib.Core.Path.{◌≡◌, refl, sym, ap, ap₂, ◌∙◌, subst}
use mathlib.Core.Logic.{◌⊎◌, inl, inr}
use mathlib.Core.Bool.{Bool, true, false, ◌||◌}
use mathlib.Core.List.{List, []}
use native.Mathlib.Omega.{arith}
use lib.Dec.{T, eqb, ltb, eqb→eq}
use lib.ListN.{length, length-append, length-drop}
use lib.Seq.{take_at, drop_at}
use lib.Ieee.Bits.{is_true}
use borrow.Author.Tests.{eq-eqb, eqb-true, ltb-true, ltb-false}
use Rattle.words.specs.Words.{Bytes, Words}
use Rattle.timed.specs.State.{Timed}
use Rattle.rules.specs.Parts.{Places}
use Rattle.rules.specs.Refusals.{listed}
use Rattle.rules.specs.Ranges as rules
use Rattle.rules.specs.Samples.{Renderer}
use Rattle.store.specs.Layout.{size, decode, encode}
use Rattle.store.specs.ValidBlocks as store
use Rattle.store.specs.Ranged.{PlacesRanged, BlockRanged}
use Rattle.store.proofs.Whole as whole
use Rattle.store.proofs.Valid as valid'
use Rattle.store.proofs.Decoded as decoded'
use Rattle.store.proofs.Decoded.{bytes_take, bytes_drop}
use Rattle.fields.proofs.All.{and_left, and_right}
use Rattle.rules.specs.Samples.{State}
use Rattle.rules.specs.Calls.{with_waits}
use Rattle.waits.specs.Area.{area_bytes}
use Rattle.waits.specs.ValidAreas.{area_valid}
use Rattle.theorem.specs.Instance.{hall, block_size, front, area_of, block_decode, block_encode, block_valid}
use Rattle.theorem.proofs.AheadRanges.{Ahead}
use Rattle.theorem.proofs.Sound.{Within}

t_or : (a b : Bool) → (a ≡ true) ⊎ (b ≡ true) → T (a || b)
t_or a b (inl e) = subst (λ (x : Bool). T (x || b)) (sym e) tt
t_or true b (inr e) = tt
t_or false b (inr e) = subst T (sym e) tt

or_t : (n : ℕ) (b : Bool) → T (eqb n 0 || b) → (n ≡ 0) ⊎ (b ≡ true)
or_t n b h = which (eqb n 0) refl h
  where
    which : (a : Bool) → eqb n 0 ≡ a → T (a || b) → (n ≡ 0) ⊎ (b ≡ true)
    which true e h = inl (eqb→eq n 0 (subst T (sym e) tt))
    which false e h = inr (is_true b h)

rate_in : (n : ℕ) → (n ≡ 0) ⊎ (listed n ≡ true) → T (eqb n 0 || listed n)
rate_in n (inl e) = t_or (eqb n 0) (listed n) (inl (eq-eqb n 0 e))
rate_in n (inr e) = t_or (eqb n 0) (listed n) (inr e)

-- a renderer in the rules' ranges is in the layout's
pub ranged : (r : Renderer Timed (List ℕ)) → rules.Ranged hall Within r → BlockRanged r
ranged r h =
    let f = h.filter in
    record {
      setup = h.setup;
      rate = rate_in r.rate h.rate;
      phase = h.phase;
      position = h.position;
      start = h.start;
      gain = h.gain;
      filter = record { a1 = f.a1; a2 = f.a2; b0 = f.b0; b1 = f.b1; b2 = f.b2; x1 = f.x1; x2 = f.x2; y1 = f.y1; y2 = f.y2 };
      pending = h.pending;
      idle = h.idle;
      state = h.meta.state;
      infos = h.meta.infos;
      places = record { lengths = h.long; words = λ c l. h.words c; none = h.none };
    }

words_in : (p : Places) → PlacesRanged p → (c : ℕ) (below : Bool) → ltb c 12 ≡ below → Words (p c)
words_in p h c true e = h.words c (ltb-true c 12 e)
words_in p h c false e = subst Words (sym (h.none c (ltb-false c 12 e))) tt

unranged : (r : Renderer Timed (List ℕ)) → BlockRanged r → rules.Ranged hall Within r
unranged r h =
    let f = h.filter in
    record {
      setup = h.setup;
      rate = or_t r.rate (listed r.rate) h.rate;
      position = h.position;
      phase = h.phase;
      start = h.start;
      gain = h.gain;
      filter = record { a1 = f.a1; a2 = f.a2; b0 = f.b0; b1 = f.b1; b2 = f.b2; x1 = f.x1; x2 = f.x2; y1 = f.y1; y2 = f.y2 };
      meta = record { state = h.state; infos = h.infos };
      pending = h.pending;
      idle = h.idle;
      long = h.places.lengths;
      words = λ c. words_in r.pending.places h.places c (ltb c 12) refl;
      none = h.places.none;
    }

-- the ranges ask nothing of what waits
with_ahead : (ws : List ℕ) (r : State hall) → rules.Ranged hall Within r → rules.Ranged hall Within (with_waits hall ws r)
with_ahead ws r h =
    record {
      setup = h.setup;
      rate = h.rate;
      position = h.position;
      phase = h.phase;
      start = h.start;
      gain = h.gain;
      filter = h.filter;
      meta = h.meta;
      pending = h.pending;
      idle = h.idle;
      long = h.long;
      words = h.words;
      none = h.none;
    }

abbrev pub AllRanged : State hall → Type 0
AllRanged r = rules.AllRanged hall Within Ahead r

-- ---- a renderer's block: its front and its area

module _ (r : State hall) (h : AllRanged r) where
  front_long : length (encode r) ≡ size
  front_long = whole.encode_long r (ranged r h.renderer)

  pub front_is : front (block_encode r) ≡ encode r
  front_is = take_at (encode r) r.waits size front_long

  pub area_is : area_of (block_encode r) ≡ r.waits
  area_is = drop_at (encode r) r.waits size front_long

  pub size_of : length (block_encode r) ≡ block_size
  size_of = length-append (encode r) r.waits ∙ ap₂ (λ (m n : ℕ). m + n) front_long h.ahead.long

  front_back : decode (front (block_encode r)) ≡ with_waits hall [] r
  front_back = ap decode front_is ∙ whole.decode_encode r (ranged r h.renderer)

  pub back_of : block_decode (block_encode r) ≡ r
  back_of = ap₂ (λ (ws : List ℕ) (s : State hall). with_waits hall ws s) area_is front_back

  pub hall_valid_of : store.hall_valid (front (block_encode r)) ≡ true
  hall_valid_of = ap store.hall_valid front_is ∙ is_true (store.hall_valid (encode r)) (valid'.hall_encode r (ranged r h.renderer))

  pub valid_of : block_valid (block_encode r) ≡ true
  valid_of =
      let long : eqb (length (block_encode r)) block_size ≡ true = eq-eqb _ _ size_of in
      let good : store.valid (front (block_encode r)) ≡ true = ap store.valid front_is ∙ is_true (store.valid (encode r)) (valid'.valid_encode r (ranged r h.renderer)) in
      let ahead : area_valid (decode (front (block_encode r))).clock.position (area_of (block_encode r)) ≡ true =
      ap₂ (λ (s : State hall) (ws : List ℕ). area_valid s.clock.position ws) front_back area_is ∙ h.ahead.valid in
      rw (long, good, ahead) refl

-- ---- a block that is valid

-- its front
pub front_ranged : (b : List ℕ) → Bytes b → store.valid b ≡ true → rules.Ranged hall Within (decode b)
front_ranged b bs e = unranged (decode b) (decoded'.decode_ranged b bs (subst T (sym e) tt))

module _ (b : List ℕ) (bs : Bytes b) (e : block_valid b ≡ true) where
  long : length b ≡ block_size
  long = eqb-true _ _ (and_left _ _ (and_left _ _ e))

  pub decoded_of : AllRanged (block_decode b)
  decoded_of =
      let f = decoded'.decode_ranged (front b) (bytes_take size b bs) (subst T (sym (and_right (eqb (length b) block_size) _ (and_left _ _ e))) tt) in
      record {
        renderer = with_ahead (area_of b) (decode (front b)) (unranged (decode (front b)) f);
        ahead = record { long = length-drop size b ∙ (let q : length b - size ≡ area_bytes = omega (arith, long) in q); bytes = bytes_drop size b bs; valid = and_right _ _ e };
      }

pub setup_of : (b : List ℕ) → Bytes b → store.hall_valid (front b) ≡ true → rules.HallRanged (block_decode b).setup
unfolding decode
setup_of b bs e = decoded'.hall_ranged (front b) (bytes_take size b bs) (subst T (sym e) tt)
