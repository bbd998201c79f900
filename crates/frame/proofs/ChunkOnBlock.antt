-- A chunk on a state block is the rules' chunk. Assumes nothing.
use mathlib.Core.Path.{◌≡◌, refl, sym, ap, ap₂, fun_ext, ◌∙◌, subst}
use mathlib.Core.Bool.{Bool, true, false, cond}
use mathlib.Core.List.{List, [], map}
use Prim.Native.Nat.{ℕ, ◌+◌, ◌*◌, ◌<◌, ◌≤◌}
use native.Mathlib.Omega.{arith}
use borrow.Author.Tests.{ltb-true, ltb-false, lt-leb, ne_eqb}
use lib.Dec.{T, leb, ltb}
use lib.ListN.{length, get_or, take, drop, length-map, length-drop}
use lib.Seq.{take_all, take-nil, length-take-le}
use lib.Ieee.{Float, binary32, fits, of_bits}
use Rattle.ieee.specs.Bounds.{All}
use Rattle.limiter.specs.Meters.{meets_all}
use Rattle.panning.specs.Setup.{HallFits, Setup, present, marks_of}
use Rattle.panning.proofs.Theorems.{mark_is}
use Rattle.rules.specs.Parts.{Channels, Places, none, floats, laid}
use Rattle.rules.specs.Mix.{Moment}
use Rattle.rules.specs.Samples.{Frame, Renderer, sounding, metered, flushed, gain_after}
use Rattle.timed.specs.State.{Timed}
use Rattle.theorem.specs.Instance.{Sent, hall}
use Rattle.store.specs.declared.renderer.Renderer714.{Renderer714}
use Rattle.store.specs.Layout.{places_at, assembled, infos_of, places_of, layout_of, setup_in}
use Rattle.store.specs.Singles.{SourceSingles}
use Rattle.store.specs.Steps.{settled_by}
use Rattle.store.proofs.Theorems.{places_row, no_places, setup_beside, words_long}
use Rattle.render.specs.Framed.{Framed}
use Rattle.render.specs.Run.{filter_after, row_run}
use Rattle.render.proofs.Theorems.{Fit}
use Rattle.rendering.specs.declared.Rendering.{Rendering}
use Rattle.rendering.specs.Held.{held}
use Rattle.frame.specs.Chunk.{chunk}
use Rattle.rendering.specs.Out.{behind}
use Rattle.rendering.specs.Give.{CanGive, Gave, CanGiveRows, AbsentSilent, GaveRows}
use Rattle.chunk.specs.ChunkRows.{Laid}
use Rattle.rendering.specs.Pass.{CanPass, moment_here, Waits}
use Rattle.frame.specs.Turn.{ready_after, settled_at, Passes}
use Rattle.rendering.proofs.Theorems.{none_behind, gave_rows}
use Rattle.rendering.proofs.Theorems.{all_take, all_drop}
use Rattle.chunk.proofs.Theorems.{laid_nil, length_laid, laid_floats, fit_all}
use Rattle.frame.proofs.Silent.{absent_silent}

-- ---- the renderer after a chunk, before a whole block is given out

module _ (f : Frame Sent) (t k : ℕ) (s : Renderer714) (b : List ℕ) where
  abbrev at : ℕ → Moment
  at = moment_here f t k s b

  abbrev settled : Renderer Timed (List ℕ)
  settled = settled_at f t k s b

  abbrev rows : Places
  rows = settled.pending.places

  -- no whole block
  chunk_waits : leb 64 (s.pending + k) ≡ false → (chunk hall f k t (held s b)).next ≡ settled
  unfolding chunk
  chunk_waits e = rw e refl

  chunk_none : leb 64 (s.pending + k) ≡ false → (chunk hall f k t (held s b)).given ≡ none
  unfolding chunk
  chunk_none e = rw e refl

  chunk_unmet : leb 64 (s.pending + k) ≡ false → (chunk hall f k t (held s b)).meters ≡ []
  unfolding chunk
  chunk_unmet e = rw e refl

  -- a whole block is `flushed`
  places_short : (c : ℕ) (q : Bool) → ltb c 12 ≡ q → length (places_of b c) ≤ 64
  places_short c true e = rw (places_row b c (ltb-true c 12 e), words_long b (places_at + 256 * c) 64) (omega arith)
  places_short c false e = rw (no_places b c (ltb-false c 12 e)) (omega arith)

  row_whole : (c : ℕ) (here : Bool) → take 64 (cond here (floats rows c) []) ≡ cond here (floats rows c) []
  row_whole c true =
      take_all 64 (floats rows c)
      (let l : length (places_of b c) ≤ 64 = places_short c (ltb c 12) refl in
      rw (length-map (rows c) (of_bits binary32), length_laid s.pending (sounding (setup_in b) (λ c. row_run at s.filter c t k) c) (places_of b c)) l)
  row_whole c false = take-nil 64

  rows_whole : (λ c. take 64 (sounding (setup_in b) (floats rows) c)) ≡ sounding (setup_in b) (floats rows)
  rows_whole = fun_ext (λ c. row_whole c (present (layout_of b) c))

  module _ (e : s.pending + k ≡ 64) where
    chunk_whole : (chunk hall f k t (held s b)).next ≡ (flushed hall settled).next
    unfolding chunk flushed
    chunk_whole =
        rw e
        (ap
        (λ (w : Channels). record {
          setup = settled.setup;
          rate = settled.rate;
          clock = settled.clock;
          limiter = record { gain = gain_after 64 s.rate s.limiter.gain w };
          filter = settled.filter;
          meta = settled.meta;
          pending = record { count = 0; places = rows };
          waits = settled.waits;
        })
        (sym rows_whole))

    chunk_given : (chunk hall f k t (held s b)).given ≡ (flushed hall settled).given
    unfolding chunk flushed
    chunk_given = rw (e, rows_whole) refl

    chunk_meters : (chunk hall f k t (held s b)).meters ≡ (flushed hall settled).meters
    unfolding chunk flushed
    chunk_meters = rw e (ap (metered s.limiter.gain) (sym rows_whole))

  -- ---- what the code leaves

  module _ (ys : List Float) (columns : (c : ℕ) → c < 12 → take k (drop (64 * c) ys) ≡ row_run at s.filter c t k) (b' : List ℕ)
      (l : Laid (marks_of (layout_of b)) ys s.pending k b b') where
    rows_laid : (c : ℕ) (q : Bool) → ltb c 12 ≡ q
        → laid s.pending (cond (get_or (marks_of (layout_of b)) c false) (take k (drop (64 * c) ys)) []) (places_of b c)
        ≡ laid s.pending (sounding (setup_in b) (λ c. row_run at s.filter c t k) c) (places_of b c)
    rows_laid c true e =
        ap₂ (λ (here : Bool) (xs : List Float). laid s.pending (cond here xs []) (places_of b c)) (mark_is (layout_of b) c) (columns c (ltb-true c 12 e))
    rows_laid c false e =
        rw (no_places b c (ltb-false c 12 e))
        (laid_nil s.pending (cond (get_or (marks_of (layout_of b)) c false) (take k (drop (64 * c) ys)) [])
        ∙ sym (laid_nil s.pending (sounding (setup_in b) (λ c. row_run at s.filter c t k) c)))

    pub held_settled : {r : Renderer714} → r ≡ settled_by s (filter_after at s.filter t k) k → held r b' ≡ settled
    held_settled e =
        ap (λ (r : Renderer714). held r b') e
        ∙ ap₂ (λ (is : List ℕ) (ps : Places). assembled (settled_by s (filter_after at s.filter t k) k) is ps (setup_in b')) l.infos
        (l.places ∙ fun_ext (λ c. rows_laid c (ltb c 12) refl))
        ∙ ap (assembled (settled_by s (filter_after at s.filter t k) k) (infos_of b) rows) (setup_beside b b' l.hall)

-- the places of a channel that the hall lacks stay
pub stays_absent : {b b' : List ℕ} {ys : List Float} {pending k : ℕ} → Laid (marks_of (layout_of b)) ys pending k b b' → (j : ℕ) → present (layout_of b) j ≡ false
    → places_of b j ≡ places_of b' j
stays_absent {b} {b'} {ys} {pending} {k} l j e =
    sym (ap (λ (p : Places). p j) l.places ∙ ap (λ (here : Bool). laid pending (cond here (take k (drop (64 * j) ys)) []) (places_of b j)) (mark_is (layout_of b) j ∙ e))

places_long : (b : List ℕ) (c : ℕ) → c < 12 → length (places_of b c) ≡ 64
places_long b c m = ap length (places_row b c m) ∙ words_long b (places_at + 256 * c) 64

-- a block in part leaves the number that is ready, a whole one adds 64
stays_ready : (ready pending : ℕ) → 0 < pending → ready ≡ ready_after ready pending
stays_ready ready pending h = rw (ne_eqb pending 0 (λ e. omega arith)) refl

adds_ready : (ready : ℕ) {pending : ℕ} → pending ≡ 0 → ready + 64 ≡ ready_after ready pending
adds_ready ready e = rw e refl

-- what a turn of the frame's loop may do: pass its samples, and where a block gets whole, give it out behind those that are ready
pub record Passable (w : Rendering) (b pcm out codes : List ℕ) (objects n t k stride : ℕ) : Type 0 where
  pub framed : Framed pcm (length codes + objects) n
  pub span : t + k ≤ n
  pub inputs : length codes ≤ 18
  pub few : objects ≤ 16
  pub passes : CanPass w.renderer objects k
  pub some : 0 < k
  pub rate : w.renderer.rate ≤ 16777216
  pub room : w.renderer.pending + k ≡ 64 → w.ready + 64 ≤ stride
  pub short : stride ≤ 4096
  pub output : 48 * stride ≤ length out
  -- a hall that may be panned in, and places of f32s
  pub hall : HallFits (setup_in b)
  pub sources : All SourceSingles w.renderer.state.sources

-- an f32
abbrev Fits : Float → Type 0
Fits x = T (fits binary32 x)

module _ (f : Frame Sent) {w v : Rendering} {b pcm out codes : List ℕ} {objects n t k stride : ℕ} (h : Passable w b pcm out codes objects n t k stride) {ys : List Float}
    (y : Waits (moment_here f t k w.renderer b) w t k ys v) where
  -- where the rows are a whole block, those of absent channels are +0.0
  pub rows_silent : k ≡ 64 → AbsentSilent (marks_of (layout_of b)) ys
  rows_silent = absent_silent f t k w.renderer b h.hall h.sources ys y.columns

  -- a block of rows can be given out
  pub can_give_rows : k ≡ 64 → CanGiveRows v out stride
  can_give_rows e =
      let p = h.passes.pending in
      let q = h.room (omega arith) in
      let i = y.ready in
      record {
        rate = rw (ap (λ (x : Renderer714). x.rate) y.renderer) h.rate;
        room = omega arith;
        short = h.short;
        output = h.output;
      }

module _ (f : Frame Sent) {w v : Rendering} {b pcm out codes : List ℕ} {objects n t k stride : ℕ} (h : Passable w b pcm out codes objects n t k stride) {ys : List Float}
    (y : Waits (moment_here f t k w.renderer b) w t k ys v) {b' : List ℕ} (l : Laid (marks_of (layout_of b)) ys w.renderer.pending k b b') where
  abbrev s : Renderer714
  s = w.renderer

  pub same_layout : layout_of b' ≡ layout_of b
  same_layout = ap (λ (h : Setup). h.layout) (setup_beside b b' l.hall)

  is_settled : held v.renderer b' ≡ settled f t k s b
  is_settled = held_settled f t k s b ys y.columns b' l y.renderer

  pending_after : v.renderer.pending ≡ s.pending + k
  pending_after = ap (λ (x : Renderer714). x.pending) y.renderer

  -- a whole block can be given out
  pub can_give : v.renderer.pending ≡ 64 → CanGive v out stride
  can_give z =
      let p = pending_after in
      let q = h.room (sym p ∙ z) in
      let j = y.ready in
      record {
        pending = omega arith;
        rate = rw (ap (λ (x : Renderer Timed (List ℕ)). x.rate) is_settled) h.rate;
        room = omega arith;
        short = h.short;
        output = h.output;
      }

  pub passes_on : (v.renderer.pending ≡ 64 → ⊥) → Passes f t k stride w b out v b' out
  passes_on z =
      let p = pending_after in
      let q = h.passes.pending in
      let m : s.pending + k ≡ 64 → ⊥ = λ y. z (p ∙ y) in
      let o = lt-leb 64 (s.pending + k) (omega arith) in
      let some = h.some in
      record {
        next = record { holds = is_settled ∙ sym (chunk_waits f t k s b o); small = l.small; hall = l.hall };
        given = sym (none_behind w.ready stride out) ∙ ap (λ (g : Channels). behind w.ready g stride out) (sym (chunk_none f t k s b o));
        ready = y.ready ∙ stays_ready w.ready v.renderer.pending (omega arith);
        meters = y.meters ∙ ap (meets_all w.meters) (sym (chunk_unmet f t k s b o));
      }

  pub passes_given : {r : Rendering} {out' : List ℕ} → v.renderer.pending ≡ 64 → Gave v b' stride out r out' → Passes f t k stride w b out r b' out'
  unfolding flushed
  passes_given {r} {out'} z g =
      let o = sym pending_after ∙ z in
      let j = y.ready in
      let c : r.ready ≡ w.ready + 64 = g.ready ∙ (let i = j in let m = z in omega arith) in
      record {
        next = record {
          holds = g.next ∙ ap (λ (x : Renderer Timed (List ℕ)). (flushed hall x).next) is_settled ∙ sym (chunk_whole f t k s b o);
          small = l.small;
          hall = l.hall;
        };
        given = g.given
            ∙ (λ i. behind (j i) (flushed hall (is_settled i)).given stride out) ∙ ap (λ (g : Channels). behind w.ready g stride out) (sym (chunk_given f t k s b o));
        ready = c ∙ adds_ready w.ready (ap (λ (x : Renderer Timed (List ℕ)). x.pending.count) g.next);
        meters = g.meters ∙ (λ i. meets_all (y.meters i) (flushed hall (is_settled i)).meters) ∙ ap (meets_all w.meters) (sym (chunk_meters f t k s b o));
      }

  -- the same out of the rows, where they are all of it
  pub passes_whole : {r : Rendering} {out' : List ℕ} → length ys ≡ 768 → k ≡ 64 → GaveRows (marks_of (layout_of b)) v ys stride out r out' → Passes f t k stride w b out r b' out'
  passes_whole {r} {out'} long e g =
      let p = h.passes.pending in
      let none : s.pending ≡ 0 = omega arith in
      let all : v.renderer.pending ≡ 64 = pending_after ∙ (omega arith) in
      passes_given all
      (gave_rows v b' ys out stride all (λ c m p. sym (row_read long e none all (fit_all ys g.fit) c m (sym (ap (λ (n : ℕ). present n c) same_layout) ∙ p)))
      (subst (λ (n : ℕ). GaveRows (marks_of n) v ys stride out r out') (sym same_layout) g))
    where
      row_read : length ys ≡ 768 → k ≡ 64 → s.pending ≡ 0 → v.renderer.pending ≡ 64 → Fit ys → (c : ℕ) → c < 12 → present (layout_of b) c ≡ true
          → take v.renderer.pending (floats (places_of b') c) ≡ take 64 (drop (64 * c) ys)
      row_read long e none all fit c m p =
          let xs = take 64 (drop (64 * c) ys) in
          let d : 64 ≤ length (drop (64 * c) ys) = rw length-drop (omega arith) in
          let i : length xs ≡ 64 = length-take-le 64 (drop (64 * c) ys) d in
          let j = places_long b c m in
          ap₂ (λ (n : ℕ) (ws : List ℕ). take n (map (of_bits binary32) ws)) all
          (ap (λ (p : Places). p c) l.places ∙ (λ i. laid (none i) (cond ((mark_is (layout_of b) c ∙ p) i) (take (e i) (drop (64 * c) ys)) []) (places_of b c)))
          ∙ ap (take 64) (laid_floats xs (places_of b c) (all_take Fits 64 (drop (64 * c) ys) (all_drop Fits (64 * c) ys fit)) (i ∙ sym j))
          ∙ take_all 64 xs (omega arith)
