-- The walk over the updates: what it has found after n of them, and what it answers. Assumes nothing.
use Prim.Native.Nat.{ℕ, zero, suc, ◌+◌, ◌*◌, ◌/◌, ◌%◌, ◌<◌, ◌≤◌}
use mathlib.Core.Path.{◌≡◌, refl, sym, ap, ap₂, ◌∙◌}
use mathlib.Core.Bool.{true}
use mathlib.Core.List.{List}
use mathlib.Core.Logic.{⊎_elim}
use native.Mathlib.Nat.{eq-or-lt_of_le}
use native.Mathlib.Omega.{arith}
use lib.ListN.{length, get_or, set, replicate, length-set}
use lib.Seq.{get_or-set_same, get_or-set_other}
use Rattle.clock.specs.declared.FrameOffset.{FrameOffset}
use Rattle.clock.proofs.SameCount.{offset_is}
use Rattle.fields.specs.RecordBytes.{all}
use Rattle.records.specs.Laid.{is_whole_update, update_end, update_at}
use Rattle.records.specs.Falls.{offset_in}
use Rattle.records.specs.LayoutAnswers.{no_sent, IsLayout, Placed}
use Rattle.records.specs.declared.sent.Sent.{Sent}
use Rattle.fields.proofs.All.{all_none, all_more}
use Rattle.records.proofs.Within.{update_within}
use Rattle.records.proofs.Updates.{laid_out_is, counted, next_update}

module _ {A : Type 0} (d : A) where
  -- f holds g 0 .. g (n - 1)
  abbrev Holds : List A → (ℕ → A) → ℕ → Type 0
  Holds f g n = (i : ℕ) → i < n → get_or f i d ≡ g i

  holds_more : (f : List A) (g : ℕ → A) (n : ℕ) (x : A) → n < length f → Holds f g n → x ≡ g n → Holds (set f n x) g (n + 1)
  holds_more f g n x l h e i b =
      ⊎_elim
      (λ (q : i ≡ n). rw q (get_or-set_same f n x d l ∙ e))
      (λ (a : i < n). get_or-set_other f n i x d (omega arith) ∙ h i a)
      (eq-or-lt_of_le (let c : i ≤ n = omega arith in c))

  -- f is d from n on
  abbrev Rest : List A → ℕ → Type 0
  Rest f n = (i : ℕ) → n ≤ i → get_or f i d ≡ d

  none_held : (k i : ℕ) → get_or (replicate k d) i d ≡ d
  none_held zero i = refl
  none_held (suc k) zero = refl
  none_held (suc k) (suc i) = none_held k i

  rest_more : (f : List A) (n : ℕ) (x : A) → Rest f n → Rest (set f n x) (n + 1)
  rest_more f n x h i b = get_or-set_other f n i x d (omega arith) ∙ h i (omega arith)

-- update i of m, in a frame that ends at `end`
abbrev pub sent_for : ℕ → List ℕ → ℕ → Sent
sent_for end m i = record { place = update_at m i; offset = record { 0 = offset_in end m (update_at m i) } }

-- n updates are passed, the next record is r
pub record Walked (end : ℕ) (m : List ℕ) (s : List Sent) (n r : ℕ) : Type 0 where
  pub few : n ≤ 16
  pub passed : all (λ i. is_whole_update m (update_at m i)) n ≡ true
  pub at : r ≡ update_at m n
  pub within : r ≤ length m / 40
  pub room : length s ≡ 16
  pub held : Holds no_sent s (sent_for end m) n
  pub rest : Rest no_sent s n

module _ (end : ℕ) (m : List ℕ) where
  pub walk_begins : Walked end m (replicate 16 no_sent) 0 0
  unfolding update_at
  walk_begins =
      record {
        few = omega arith;
        passed = all_none _;
        at = refl;
        within = omega arith;
        room = refl;
        held = λ i h. absurd (omega arith);
        rest = λ i h. none_held no_sent 16 i;
      }

  pub walk_goes_on : (s : List Sent) (n r : ℕ) (x : FrameOffset) (next : ℕ) → length m % 40 ≡ 0 → Walked end m s n r → n < 16
      → is_whole_update m r ≡ true → update_end m r ≡ next → x.0 ≡ offset_in end m r → Walked end m (set s n (record { place = r; offset = x })) (n + 1) next
  walk_goes_on s n r x next whole w l u e y =
      let q = w.at in
      let u' : is_whole_update m (update_at m n) ≡ true = rw q at u in
      let y' : ◌≡◌ {A = Sent} (record { place = r; offset = x }) (sent_for end m n) = ap₂ (λ (p : ℕ) (o : FrameOffset). record { place = p; offset = o }) q (offset_is x (rw q at y)) in
      record {
        few = omega arith;
        passed = all_more _ n w.passed u';
        at = sym e ∙ next_update m n r q;
        within = rw (← e) (update_within m whole r u);
        room = simp length-set w.room;
        held = holds_more no_sent s (sent_for end m) n (record { place = r; offset = x }) (omega arith) w.held y';
        rest = rest_more no_sent s n (record { place = r; offset = x }) w.rest;
      }

  pub walk_ends : (s : List Sent) (n r : ℕ) → length m % 40 ≡ 0 → Walked end m s n r → length m / 40 ≤ r
      → (few : n ≤ 16) → IsLayout m (record { count = n; sent = s; few = few }) × Placed end m (record { count = n; sent = s; few = few })
  walk_ends s n r whole w l few =
      let last : 40 * update_at m n ≡ length m = rw (← w.at) (omega arith) in
      let c = counted m n w.few w.passed last in (
        record {
          laid = laid_out_is m n w.few w.passed last;
          counted = sym c;
          few = rw c w.few;
          places = rw c (λ i b. ap (λ (x : Sent). x.place) (w.held i b));
          past = rw c (λ i b. (ap (λ (x : Sent). x.place) (w.rest i b), ap (λ (x : Sent). x.offset.0) (w.rest i b)));
        },
        rw c (λ i b. ap (λ (x : Sent). x.offset.0) (w.held i b)),
      )
