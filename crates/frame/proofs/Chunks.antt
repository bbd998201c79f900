-- A frame, which the rules define a sample at a time, is made of chunks. Assumes nothing.
use Prim.Native.Nat.{ℕ, zero, suc, ◌+◌, ◌≤◌, ◌<◌}
use native.Mathlib.Nat.{zero-add, suc-add}
use native.Mathlib.Omega.{arith}
use native.Mathlib.Numerals.{add-one}
use mathlib.Core.Path.{◌≡◌, refl, sym, ap, ◌∙◌}
use mathlib.Core.Bool.{Bool, true, false, cond, ◌&&◌}
use mathlib.Core.List.{List, [], ◌∷◌, ◌++◌, append_assoc, append-nil}
use lib.Dec.{leb, eqb}
use lib.Ieee.{Float}
use borrow.Author.Tests.{lt-leb, ne_eqb}
use Rattle.ieee.specs.Bounds.{All}
use Rattle.lowpass.specs.Lowpass.{output, next}
use Rattle.panning.specs.Setup.{present}
use Rattle.rules.specs.Parts.{Places, none, joined, laid}
use Rattle.rules.specs.Leaves.{Leaves, started}
use Rattle.rules.specs.Mix.{Moment, heard, fed}
use Rattle.rules.specs.Samples.{appended, Frame, State, After, sounding, row, moment, updated, slotted, settled, closing, passed, sampled, framed}
use Rattle.render.specs.Run.{filter_after, row_run}
use Rattle.frame.specs.Chunk.{moments, chunk}

-- the first sample and then the rest, on channel 3 and on another; nothing on a channel that is absent
one_by_one : (here b : Bool) (k : ℕ) (x y : Float) (xs : List Float) (ws : List ℕ)
    → laid (k + 1) (cond here xs []) (laid k (cond here (cond b (x ∷ []) (y ∷ [])) []) ws) ≡ laid k (cond here (cond b (x ∷ []) (y ∷ []) ++ xs) []) ws
one_by_one true true k x y xs ws = rw add-one refl
one_by_one true false k x y xs ws = rw add-one refl
one_by_one false b k x y xs ws = refl

module _ (L : Leaves) where
  -- no update falls on t
  abbrev pub NoneAt : ℕ → List L.Update → Type 0
  NoneAt t us = All (λ (u : L.Update). eqb (L.offset u) t ≡ false) us

  none_due : (t : ℕ) (us : List L.Update) (r : State L) → NoneAt t us → updated L t us r ≡ r
  none_due t [] r h = refl
  none_due t (u ∷ us) r h = rw h.0 (none_due t us r h.1)

  -- one part and then the other
  abbrev pub both : After L → After L → After L
  both a d = record { next = d.next; given = joined a.given d.given; meters = a.meters ++ d.meters; moments = a.moments ++ d.moments }

  both_assoc : (a b c : After L) → both a (both b c) ≡ both (both a b) c
  both_assoc a b c =
      let g : (k : ℕ) → a.given k ++ (b.given k ++ c.given k) ≡ (a.given k ++ b.given k) ++ c.given k = λ k. sym (append_assoc (a.given k) (b.given k) (c.given k)) in
      let l = sym (append_assoc a.meters b.meters c.meters) in
      let m = sym (append_assoc a.moments b.moments c.moments) in
      λ i. record { next = c.next; given = λ k. g k i; meters = l i; moments = m i }

  pub framed_then : (f : Frame L.Update) (n m t : ℕ) (r : State L) → framed L f (n + m) t r ≡ both (framed L f n t r) (framed L f m (t + n) (framed L f n t r).next)
  framed_then f zero m t r = ap (λ (k : ℕ). framed L f k t r) (zero-add m) ∙ ap (λ (k : ℕ). framed L f m k r) (let e : t ≡ t + 0 = omega arith in e)
  framed_then f (suc n) m t r =
      ap (λ (k : ℕ). framed L f k t r) (suc-add n m)
      ∙ ap (both (sampled L f t r)) (framed_then f n m (suc t) (sampled L f t r).next)
      ∙ both_assoc (sampled L f t r) (framed L f n (suc t) (sampled L f t r).next) (framed L f m (suc t + n) (framed L f n (suc t) (sampled L f t r).next).next)
      ∙ ap (λ (k : ℕ). both (framed L f (suc n) t r) (framed L f m k (framed L f (suc n) t r).next)) (let e : suc t + n ≡ t + suc n = omega arith in e)

  -- a sample whose updates and slot are done, and n more
  abbrev follow : Frame L.Update → ℕ → ℕ → State L → After L
  follow f n t r = let a = passed L (moment L f t r.setup r.meta) r in both a (framed L f n (suc t) a.next)

  -- in the middle of a chunk; the clock may be at rest
  abbrev middle : Bool → Frame L.Update → ℕ → State L → State L
  middle run f t r =
      record {
        setup = r.setup;
        rate = r.rate;
        clock = record { position = r.clock.position + 1; phase = cond run (r.clock.phase + 1) r.clock.phase; start = r.clock.start };
        limiter = r.limiter;
        filter = next r.filter (fed (moment L f t r.setup r.meta));
        meta = r.meta;
        pending = appended 1 (sounding r.setup (row (moment L f t r.setup r.meta) r.filter)) r.pending;
        waits = r.waits;
      }

  -- what its first sample leaves
  abbrev opening : Bool → Frame L.Update → ℕ → State L → After L
  opening run f t r = record { next = middle run f t r; given = none; meters = []; moments = moment L f t r.setup r.meta ∷ [] }

  module _ (f : Frame L.Update) (t : ℕ) (r : State L) (room : r.pending.count + 1 < 64) where
    middle_is : (run : Bool) → started L r.meta ≡ run → (run ≡ true → r.clock.phase + 1 < 64) → passed L (moment L f t r.setup r.meta) r ≡ opening run f t r
    middle_is true e h = rw (lt-leb 64 (r.pending.count + 1) room, e, lt-leb 64 (r.clock.phase + 1) (h refl)) refl
    middle_is false e h = rw (lt-leb 64 (r.pending.count + 1) room, e) refl

  -- and the sample after it finds no update and no new slot
  no_slot : (f : Frame L.Update) (t : ℕ) (r : State L) (run : Bool) → started L r.meta ≡ run → slotted L (middle run f t r) ≡ middle run f t r
  no_slot f t r true e = let z = ne_eqb (r.clock.phase + 1) 0 (λ z. omega arith) in rw (e, z) refl
  no_slot f t r false e = rw e refl

  next_is : (f : Frame L.Update) (t : ℕ) (r : State L) (run : Bool) → started L r.meta ≡ run → (n : ℕ) → NoneAt (suc t) f.updates
      → framed L f (suc n) (suc t) (middle run f t r) ≡ follow f n (suc t) (middle run f t r)
  next_is f t r run e n q = ap (follow f n (suc t)) (ap (slotted L) (none_due (suc t) f.updates (middle run f t r) q) ∙ no_slot f t r run e)

  -- what a chunk of n samples leaves: whether the clock runs, the position and the phase after it, the phase where it rests, the number pending, the places
  abbrev shut : Frame L.Update → ℕ → ℕ → State L → Bool → ℕ → ℕ → ℕ → ℕ → Places → After L
  shut f n t r run position phase rest pending places =
      let m : ℕ → Moment = λ t. moment L f t r.setup r.meta in
      let end = leb 64 phase in
      closing L
      (record {
        setup = r.setup;
        rate = r.rate;
        clock = record { position = position; phase = cond run (cond end 0 phase) rest; start = cond (run && end) (r.clock.start + 64) r.clock.start };
        limiter = r.limiter;
        filter = filter_after m r.filter t n;
        meta = r.meta;
        pending = record { count = pending; places = places };
        waits = r.waits;
      })
      (moments m t n)

  -- the first sample, and then the n + 1 others at once
  more : (f : Frame L.Update) (n t : ℕ) (r : State L) (run : Bool) → started L r.meta ≡ run
      → both (opening run f t r) (chunk L f (suc n) (suc t) (middle run f t r)) ≡ chunk L f (suc (suc n)) t r
  unfolding chunk
  more f n t r run go =
      (λ i. shut f (suc (suc n)) t r (go i) (past r.clock.position i) (cond run (r.clock.phase + 1) r.clock.phase + suc n)
      (cond run (r.clock.phase + 1) r.clock.phase) (past r.pending.count i) (λ c. rows c i))
      ∙ clock run
      ∙ (λ i. shut f (suc (suc n)) t r (sym go i) (r.clock.position + suc (suc n)) (r.clock.phase + suc (suc n)) r.clock.phase (r.pending.count + suc (suc n)) after)
    where
      m : ℕ → Moment
      m t = moment L f t r.setup r.meta

      past : (a : ℕ) → a + 1 + suc n ≡ a + suc (suc n)
      past a = omega arith

      after : Places
      after c = laid r.pending.count (sounding r.setup (λ c. row_run m r.filter c t (suc (suc n))) c) (r.pending.places c)

      rows : (c : ℕ) → laid (r.pending.count + 1) (sounding r.setup (λ c. row_run m (next r.filter (fed (m t))) c (suc t) (suc n)) c)
          (laid r.pending.count (sounding r.setup (row (m t) r.filter) c) (r.pending.places c)) ≡ after c
      rows c = one_by_one (present r.setup.layout c) (eqb c 3) r.pending.count (output r.filter (fed (m t))) (heard (m t) c)
          (row_run m (next r.filter (fed (m t))) c (suc t) (suc n)) (r.pending.places c)

      at : Bool → ℕ → ℕ → After L
      at b phase rest = shut f (suc (suc n)) t r b (r.clock.position + suc (suc n)) phase rest (r.pending.count + suc (suc n)) after

      clock : (b : Bool) → at b (cond b (r.clock.phase + 1) r.clock.phase + suc n) (cond b (r.clock.phase + 1) r.clock.phase)
          ≡ at b (r.clock.phase + suc (suc n)) r.clock.phase
      clock true = ap (λ (k : ℕ). at true k r.clock.phase) (past r.clock.phase)
      clock false = refl

  -- a single sample
  single : (f : Frame L.Update) (t : ℕ) (r : State L) → follow f zero t r ≡ chunk L f 1 t r
  unfolding chunk
  single f t r =
      (λ i. record { next = (passed L (m t) r).next; given = λ c. append-nil ((passed L (m t) r).given c) i; meters = append-nil (passed L (m t) r).meters i; moments = m t ∷ [] })
      ∙ (λ i. closing L (settled L 1 (next r.filter (fed (m t))) (sounding r.setup (λ c. sym (append-nil (row (m t) r.filter c)) i)) r) (m t ∷ []))
    where
      m : ℕ → Moment
      m t = moment L f t r.setup r.meta

  -- no update falls on the n samples after t
  abbrev pub Quiet : Frame L.Update → ℕ → ℕ → Type 0
  Quiet f n t = (k : ℕ) → t < k → k ≤ t + n → NoneAt k f.updates

  pub chunk_is : (f : Frame L.Update) (n t : ℕ) (r : State L) (run : Bool) → started L r.meta ≡ run → Quiet f n t → (run ≡ true → r.clock.phase + suc n ≤ 64)
      → r.pending.count + suc n ≤ 64
      → follow f n t r ≡ chunk L f (suc n) t r
  chunk_is f zero t r run go q p c = single f t r
  chunk_is f (suc n) t r run go q p c =
      ap (λ (a : After L). both a (framed L f (suc n) (suc t) a.next)) (middle_is f t r (omega arith) run go (λ e. let h = p e in omega arith))
      ∙ ap (both (opening run f t r))
      (next_is f t r run go n (q (suc t) (omega arith) (omega arith))
      ∙ chunk_is f n (suc t) (middle run f t r) run go (λ k a b. q k (omega arith) (omega arith)) (slot run p) (omega arith))
      ∙ more f n t r run go
    where
      slot : (b : Bool) → (b ≡ true → r.clock.phase + suc (suc n) ≤ 64) → b ≡ true → cond b (r.clock.phase + 1) r.clock.phase + suc n ≤ 64
      slot true h e = let k = h refl in omega arith
      slot false h e = let k = h e in omega arith

  -- What a turn of the frame's loop needs: no update on the samples after its first; the block, and the slot where the clock runs, end at the earliest with it.
  pub record Turn (f : Frame L.Update) (n t : ℕ) (s : State L) : Type 0 where
    pub quiet : Quiet f n t
    pub slot : started L s.meta ≡ true → s.clock.phase + suc n ≤ 64
    pub room : s.pending.count + suc n ≤ 64

  -- what a chunk leaves as it was, and how far the stream goes
  pub record Passes (n : ℕ) (r s : State L) : Type 0 where
    pub setup : s.setup ≡ r.setup
    pub rate : s.rate ≡ r.rate
    pub position : s.clock.position ≡ r.clock.position + n
    pub meta : s.meta ≡ r.meta

  pub chunk_passes : (f : Frame L.Update) (n t : ℕ) (r : State L) → Passes n r (chunk L f n t r).next
  unfolding chunk
  chunk_passes f n t r = record { setup = refl; rate = refl; position = refl; meta = refl }

  pub chunk_whole : (f : Frame L.Update) (n t : ℕ) (r : State L) → Turn f n t (slotted L (updated L t f.updates r))
      → framed L f (suc n) t r ≡ chunk L f (suc n) t (slotted L (updated L t f.updates r))
  chunk_whole f n t r h = chunk_is f n t (slotted L (updated L t f.updates r)) _ refl h.quiet h.slot h.room

  -- a frame is a chunk, behind the updates and the slot at its first sample, and the rest
  pub turn : (f : Frame L.Update) (n m t : ℕ) (r : State L) → Turn f n t (slotted L (updated L t f.updates r))
      → framed L f (suc n + m) t r
      ≡ both (chunk L f (suc n) t (slotted L (updated L t f.updates r))) (framed L f m (t + suc n) (chunk L f (suc n) t (slotted L (updated L t f.updates r))).next)
  turn f n m t r h = framed_then f (suc n) m t r ∙ ap (λ (a : After L). both a (framed L f m (t + suc n) a.next)) (chunk_whole f n t r h)
