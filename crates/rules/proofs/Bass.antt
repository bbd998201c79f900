-- An object whose gain or send is zero is not in the bass feed: with its row replaced, an accepted push is accepted, and the same number is fed. Assumes nothing beyond `Facts`.
use mathlib.Core.Path.{◌≡◌, refl, sym, ap, ap₂, ◌∙◌}
use mathlib.Core.Logic.{◌⊎◌, inl, inr}
use mathlib.Core.Bool.{Bool, true, not, ◌&&◌, ◌||◌}
use mathlib.Core.List.{List, [], ◌∷◌, ◌++◌}
use Prim.Native.Nat.{ℕ, zero, suc, ◌+◌, ◌-◌, ◌*◌, ◌≤◌, ◌<◌}
use native.Mathlib.Nat.{mul-le-mul_right}
use native.Mathlib.Omega.{arith}
use lib.Dec.{T, eqb, leb}
use lib.ListN.{length, get_or}
use lib.Ieee.{Float, binary32, of_bits}
use lib.Ieee.Bits.{is_true}
use Rattle.ieee.specs.Bounds.{All}
use Rattle.words.specs.Words.{word, float_at}
use Rattle.words.proofs.Beside.{Kept, reads_before, reads_past}
use Rattle.mixing.specs.Sums as sums
use Rattle.mixing.specs.Sums.{plus, total}
use Rattle.mixing.specs.FrameSamples.{passes, all_pass}
use Rattle.mixing.proofs.Theorems.{pass_at, total_append}
use Rattle.ieee.proofs.Grid.{le_or_lt}
use Rattle.std.specs.Prelude.{Option, Some, None}
use Rattle.beds.specs.Matching.{matching}
use Rattle.beds.proofs.Matches.{Judged, judged}
use Rattle.panning.specs.Setup.{Setup, HallFits}
use Rattle.rules.specs.Parts.{0·0}
use Rattle.rules.specs.Leaves.{Leaves, Source, Bed}
use Rattle.rules.specs.Mix.{Moment, send_of, adds_of, sample_at, samples_at, scaled_by, fed_by, beds_on, objects_on, heard, fed, fed_by_beds}
use Rattle.rules.specs.Samples.{State}
use Rattle.rules.specs.Refusals.{Args, Found, clear, unless, ◌then◌, every, room, sized, listed, later}
use Rattle.rules.specs.Calls.{updates_in, announced, found}
use Rattle.rules.specs.Promises.{nobody, unsent, Replaced, with_pcm}
use Rattle.rules.proofs.Owed.{InHall}
use Rattle.rules.proofs.Sends.{sent_alone, not_added}
use Rattle.rules.proofs.Judged.{is_passed}

-- ---- samples of objects that are the same but for those that are not sent
abbrev pub SameSent : List Source → List Float → List Float → Type 0
SameSent [] xs ys = Unit {0}
SameSent (s ∷ ss) [] [] = Unit {0}
SameSent (s ∷ ss) [] (y ∷ ys) = ⊥
SameSent (s ∷ ss) (x ∷ xs) [] = ⊥
SameSent (s ∷ ss) (x ∷ xs) (y ∷ ys) = ((x ≡ y) ⊎ T (unsent s)) × SameSent ss xs ys

-- one more object
plus_same : (s : Source) → InHall s → (b x y : Float) → (x ≡ y) ⊎ T (unsent s) → plus b (record { coef = send_of s; sample = x }) ≡ plus b (record { coef = send_of s; sample = y })
plus_same s h b x y (inl e) = ap (λ (x : Float). plus b (record { coef = send_of s; sample = x })) e
plus_same s h b x y (inr z) = not_added s h z b x ∙ sym (not_added s h z b y)

same_sent : (hall : Setup) → HallFits hall → (ss : List Source) (xs ys : List Float) (b : Float) → All InHall ss → SameSent ss xs ys
    → total b (objects_on hall 3 ss xs) ≡ total b (objects_on hall 3 ss ys)
same_sent hall f [] xs ys b h e = refl
same_sent hall f (s ∷ ss) [] [] b h e = refl
same_sent hall f (s ∷ ss) [] (y ∷ ys) b h e = absurd e
same_sent hall f (s ∷ ss) (x ∷ xs) [] b h e = absurd e
same_sent hall f (s ∷ ss) (x ∷ xs) (y ∷ ys) b h e =
    rw (sent_alone s h.0 hall f, plus_same s h.0 b x y e.0) (same_sent hall f ss xs ys (plus b (record { coef = send_of s; sample = y })) h.1 e.1)

-- ---- beds read the rows below their number
same_fed : (ks : List Float) (code : ℕ) (codes : List ℕ) (f : Option ℕ) (x y : ℕ → Float) → Judged code codes f → ((i : ℕ) → i < length codes → x i ≡ y i)
    → fed_by ks f x ≡ fed_by ks f y
same_fed ks code codes (Some i) x y j h = ap (scaled_by ks) (h i j.0)
same_fed ks code codes None x y j h = refl

same_beds : (hall : Setup) (bs : List Bed) (codes : List ℕ) (x y : ℕ → Float) → ((i : ℕ) → i < length codes → x i ≡ y i)
    → beds_on hall 3 bs codes x ≡ beds_on hall 3 bs codes y
same_beds hall [] codes x y h = refl
same_beds hall (b ∷ bs) codes x y h =
    ap₂ (λ (s t : List sums.Addend). s ++ t) (same_fed (adds_of hall b 3) b.code codes (matching b.code codes) x y (judged b.code codes) h)
    (same_beds hall bs codes x y h)

-- two moments in one hall with the same sources, the same samples of beds and of the objects that are sent
pub record Akin (m n : Moment) : Type 0 where
  pub hall : m.hall ≡ n.hall
  pub beds : m.beds ≡ n.beds
  pub objects : m.objects ≡ n.objects
  pub codes : m.codes ≡ n.codes
  pub inputs : (i : ℕ) → i < length m.codes → m.inputs i ≡ n.inputs i
  pub own : SameSent m.objects m.own n.own

pub same_bass : (m n : Moment) → Akin m n → HallFits m.hall → All InHall m.objects → fed m ≡ fed n
unfolding heard
same_bass m n a f h =
    let os = objects_on m.hall 3 m.objects m.own in
    let ps = objects_on n.hall 3 n.objects n.own in
    let beds = same_beds m.hall m.beds m.codes m.inputs n.inputs a.inputs
    ∙ (λ i. beds_on (a.hall i) 3 (a.beds i) (a.codes i) n.inputs) in
    total_append (beds_on m.hall 3 m.beds m.codes m.inputs) os 0·0
    ∙ ap (λ (ts : List sums.Addend). total (total 0·0 ts) os) beds
    ∙ same_sent m.hall f m.objects m.own n.own (fed_by_beds n) h a.own
    ∙ (λ i. total (fed_by_beds n) (objects_on (a.hall i) 3 (a.objects i) n.own))
    ∙ sym (total_append (beds_on n.hall 3 n.beds n.codes n.inputs) ps 0·0)

-- ---- the PCM with a row replaced
module _ (n j : ℕ) (pcm qcm : List ℕ) (p : Replaced n j pcm qcm) where
  kept : Kept pcm qcm (4 * (j * n)) (4 * (suc j * n))
  kept = record { before = p.before; past = p.past }

  -- rows before it
  pub row_before : (i t : ℕ) → i < j → t < n → sample_at qcm n i t ≡ sample_at pcm n i t
  unfolding float_at
  row_before i t h l =
      let m : suc i * n ≤ j * n = mul-le-mul_right n h in
      ap (of_bits binary32) (reads_before kept (4 * (i * n + t)) 4 (omega arith))

  -- rows past it
  row_past : (i t : ℕ) → j < i → t < n → sample_at qcm n i t ≡ sample_at pcm n i t
  unfolding float_at
  row_past i t h l =
      let m : suc j * n ≤ i * n = mul-le-mul_right n h in
      ap (of_bits binary32) (reads_past kept (4 * (i * n + t)) 4 (omega arith))

  -- the rows of objects from i on, where that of an object that is not sent is replaced
  pub same_own : (t : ℕ) → t < n → (ss : List Source) (k i : ℕ) → ((d : ℕ) → i + d ≡ j → T (unsent (get_or ss d nobody)))
      → SameSent ss (samples_at pcm n k i t) (samples_at qcm n k i t)
  same_own t l [] k i h = tt
  same_own t l (s ∷ ss) zero i h = tt
  same_own t l (s ∷ ss) (suc k) i h = (first, same_own t l ss k (suc i) (λ d e. h (suc d) (omega (arith, e))))
    where
      first : (sample_at pcm n i t ≡ sample_at qcm n i t) ⊎ T (unsent s)
      first = elim (le_or_lt j i) [
        | inr u ↦ inl (sym (row_before i t u l))
        | inl u ↦ elim (le_or_lt i j) [
          | inr v ↦ inl (sym (row_past i t v l))
          | inl v ↦ inr (h 0 (omega arith))
        ]
      ]

  all_pass_is : (s : List ℕ) (at k : ℕ) → ((i : ℕ) → i < k → passes (word s (at + 4 * i)) ≡ true) → all_pass s at k ≡ true
  all_pass_is s at zero h = refl
  all_pass_is s at (suc k) h =
      ap₂ (λ (x y : Bool). x && y) (ap (λ (i : ℕ). passes (word s i)) (let e : at ≡ at + 4 * 0 = omega arith in e) ∙ h 0 (omega arith))
      (all_pass_is s (at + 4) k (λ i l. ap (λ (i : ℕ). passes (word s i)) (let e : at + 4 + 4 * i ≡ at + 4 * suc i = omega arith in e) ∙ h (suc i) (omega arith)))

  pub passes_still : (k : ℕ) → all_pass pcm 0 k ≡ true → all_pass qcm 0 k ≡ true
  passes_still k e = all_pass_is qcm 0 k (λ i l. by i (pass_at pcm 0 k e i l))
    where
      by : (i : ℕ) → passes (word pcm (0 + 4 * i)) ≡ true → passes (word qcm (0 + 4 * i)) ≡ true
      by i q = elim (le_or_lt (j * n) i) [
        | inr l ↦ ap passes (reads_before kept (0 + 4 * i) 4 (omega arith)) ∙ q
        | inl l ↦ elim (le_or_lt (suc j * n) i) [
          | inl u ↦ ap passes (reads_past kept (0 + 4 * i) 4 (omega arith)) ∙ q
          | inr u ↦
              ap (λ (at : ℕ). passes (word qcm at)) (let e : 0 + 4 * i ≡ 4 * (j * n) + 4 * (i - j * n) = omega arith in e)
              ∙ pass_at qcm (4 * (j * n)) n (is_true _ p.passes) (i - j * n) (omega arith)
        ]
      ]

-- ---- the verdict looks at the PCM's length and at refusal 8 only
module _ (L : Leaves) (r : State L) (a : Args) where
  abbrev found_by : Bool → Bool → Found
  found_by size pass =
      (unless (room a.stride (length a.out)) 1 0 0
      then unless size 2 0 0
      then unless (listed a.rate) 3 0 0
      then unless (leb (r.clock.position + a.samples) 1099511627776) 4 0 0
      then unless (L.laid_out a.meta) 5 0 0
      then unless (L.in_range a.meta) 6 0 0
      then unless pass 8 0 0)
      then unless (L.fits r.clock.position a.samples r.waits a.meta) 25 0 0
      then later (announced L (updates_in L r a)) a.objects a.codes a.samples a.rate r.rate (L.shape r.meta)

  same_size : (qcm : List ℕ) → length qcm ≡ length a.pcm → sized (with_pcm qcm a) ≡ sized a
  same_size qcm e =
      let channels = length a.codes + a.objects in
      ap (λ (n : ℕ). leb a.samples a.stride && leb (length a.codes) 18 && leb a.objects 16 && every (λ c. leb c 17) a.codes
      && eqb n (4 * (channels * a.samples)) && (eqb a.samples 0 || not (eqb channels 0))) e

  pub still_clear : (j : ℕ) (qcm : List ℕ) → Replaced a.samples j a.pcm qcm → found L r a ≡ clear → found L r (with_pcm qcm a) ≡ clear
  still_clear j qcm p e =
      let k = (length a.codes + a.objects) * a.samples in
      let q = (is_passed L r a e).early.pass in
      ap₂ found_by (same_size qcm p.length) (passes_still a.samples j a.pcm qcm p k q ∙ sym q) ∙ e
