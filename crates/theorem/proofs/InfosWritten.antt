-- An update writes infos of which each has its head, gain, size and send as asked; the others stay. Assumes nothing.
use Prim.Native.Nat.{ℕ, ◌+◌, ◌*◌, ◌^◌, ◌≤◌, ◌<◌}
use mathlib.Core.Path.{◌≡◌, refl, ◌∙◌}
use mathlib.Core.Bool.{Bool, true, false}
use mathlib.Core.List.{List}
use lib.Dec.{ltb, eqb}
use lib.ListN.{length}
use native.Mathlib.Omega.{arith}
use borrow.Author.Tests.{ltb-true, ltb-false, eqb-true, eqb-false}
use Rattle.words.specs.Words.{Bytes, word, with_word}
use Rattle.words.proofs.Back.{reads_back}
use Rattle.words.proofs.Beside.{reads_before, reads_past}
use Rattle.words.proofs.Numbers.{length_kept}
use Rattle.fields.specs.declared.object.Info.{Info}
use Rattle.timed.proofs.Theorems.{times_in}
use Rattle.updates.specs.Said.{Element}
use Rattle.info.specs.Written.{head_of, cleared, with_place, with_head, with_info}
use Rattle.updates.specs.Stored.{info_given, object_stored, object_given, objects_stored}
use Rattle.updates.proofs.Theorems.{Stored, one, twice, places_stored}
use Rattle.timed.specs.InfoSizes.{info_bytes, all_bytes, position_byte, send_byte}

-- what is said of an info by its head, gain, size and send
abbrev pub Said : Type 1
Said = ℕ → ℕ → ℕ → ℕ → Type 0

abbrev pub SaidAt : Said → List ℕ → ℕ → Type 0
SaidAt P is at = P (word is at) (word is (at + 4)) (word is (at + 8)) (word is (at + send_byte))

pub record Table (P : Said) (is : List ℕ) : Type 0 where
  pub long : length is ≡ all_bytes
  pub bytes : Bytes is
  pub each : (k : ℕ) → k < 512 → SaidAt P is (info_bytes * k)

-- an info that may be written
pub record Fit (P : Said) (bed : Bool) (i : Info) : Type 0 where
  pub head : head_of bed i < 256 ^ 4
  pub gain : i.gain < 256 ^ 4
  pub size : i.size < 256 ^ 4
  pub send : i.send < 256 ^ 4
  pub holds : P (head_of bed i) i.gain i.size i.send

-- ---- an info

-- the words of a head
record Heads (s t : List ℕ) (at hi h g z : ℕ) : Type 0 where
  stored : Stored s t at hi
  head : word t at ≡ h
  gain : word t (at + 4) ≡ g
  size : word t (at + 8) ≡ z

heads : (h : ℕ) (i : Info) (at : ℕ) (s : List ℕ) → at + info_bytes ≤ length s → h < 256 ^ 4 → i.gain < 256 ^ 4 → i.size < 256 ^ 4
    → Heads s (with_head h i at s) at (at + 20) h i.gain i.size
unfolding with_head
heads h i at s l p q r =
    let a = with_word s at h in
    let b = with_word a (at + 4) i.gain in
    let c = with_word b (at + 8) i.size in
    let d = with_word c (at + 12) i.distance in
    let e = with_word d (at + 16) i.screen in
    let la = length_kept s at 4 h in
    let lb = length_kept a (at + 4) 4 i.gain in
    let de = twice (at + 12) (at + 20) (one c (at + 12) i.distance) (one d (at + 16) i.screen) (omega arith) (omega arith) (omega arith) (omega arith) in
    let ce = twice (at + 8) (at + 20) (one b (at + 8) i.size) de (omega arith) (omega arith) (omega arith) (omega arith) in
    let be = twice (at + 4) (at + 20) (one a (at + 4) i.gain) ce (omega arith) (omega arith) (omega arith) (omega arith) in
    record {
      stored = twice at (at + 20) (one s at h) be (omega arith) (omega arith) (omega arith) (omega arith);
      head = reads_before be.kept at 4 (omega arith) ∙ reads_back s at 4 h (omega arith) p;
      gain = reads_before ce.kept (at + 4) 4 (omega arith) ∙ reads_back a (at + 4) 4 i.gain (omega arith) q;
      size = reads_before de.kept (at + 8) 4 (omega arith) ∙ reads_back b (at + 8) 4 i.size (omega arith) r;
    }

-- all words of an info of which something is said
record Infos (s t : List ℕ) (at h g z d : ℕ) : Type 0 where
  heads : Heads s t at (at + info_bytes) h g z
  send : word t (at + send_byte) ≡ d

info_stored : (P : Said) (fresh bed : Bool) (i : Info) (at : ℕ) (s : List ℕ) → at + info_bytes ≤ length s → Fit P bed i →
    Infos s (with_info fresh bed i at s) at (head_of bed i) i.gain i.size i.send
unfolding with_info
info_stored P fresh bed i at s l f =
    let a = with_head (head_of bed i) i at s in
    let h = heads (head_of bed i) i at s l f.head f.gain f.size in
    let w = places_stored fresh i (at + position_byte) a in
    let b = with_place i (at + position_byte) (cleared fresh (at + position_byte) a) in
    let n = w.long ∙ h.stored.long in
    let t = twice (at + position_byte) (at + info_bytes) w (one b (at + send_byte) i.send) (omega arith) (omega arith) (omega arith) (omega arith) in
    record {
      heads = record {
        stored = twice at (at + info_bytes) h.stored t (omega arith) (omega arith) (omega arith) (omega arith);
        head = reads_before t.kept at 4 (omega arith) ∙ h.head;
        gain = reads_before t.kept (at + 4) 4 (omega arith) ∙ h.gain;
        size = reads_before t.kept (at + 8) 4 (omega arith) ∙ h.size;
      };
      send = reads_back b (at + send_byte) 4 i.send (omega arith) f.send;
    }

module _ (P : Said) where
  -- info k of a table of which info j is written
  table_at : (s t : List ℕ) (j h g z d : ℕ) → Infos s t (info_bytes * j) h g z d → P h g z d → Table P s → (k : ℕ) → k < 512 → (below same : Bool) → ltb k j ≡ below
      → eqb k j ≡ same → SaidAt P t (info_bytes * k)
  table_at s t j h g z d w p q k l true same e f =
      let a = ltb-true k j e in
      let K = w.heads.stored.kept in
      let at = info_bytes * k in
      rw (reads_before K at 4 (omega arith), reads_before K (at + 4) 4 (omega arith), reads_before K (at + 8) 4 (omega arith), reads_before K (at + send_byte) 4 (omega arith))
      (q.each k l)
  table_at s t j h g z d w p q k l false true e f =
      let a = eqb-true k j f in
      rw (a, w.heads.head, w.heads.gain, w.heads.size, w.send) p
  table_at s t j h g z d w p q k l false false e f =
      let a = ltb-false k j e in
      let n = eqb-false k j f in
      let m : j < k = omega arith in
      let K = w.heads.stored.kept in
      let at = info_bytes * k in
      rw (reads_past K at 4 (omega arith), reads_past K (at + 4) 4 (omega arith), reads_past K (at + 8) 4 (omega arith), reads_past K (at + send_byte) 4 (omega arith))
      (q.each k l)

  table_stored : (s t : List ℕ) (j h g z d : ℕ) → Infos s t (info_bytes * j) h g z d → P h g z d → Table P s → Table P t
  table_stored s t j h g z d w p q =
      let v = w.heads.stored in
      record { long = v.long ∙ q.long; bytes = v.bytes q.bytes; each = λ k l. table_at s t j h g z d w p q k l (ltb k j) (eqb k j) refl refl }

  info_kept : (fresh bed : Bool) (i : Info) (j : ℕ) (s : List ℕ) → j < 512 → Fit P bed i → Table P s → Table P (with_info fresh bed i (info_bytes * j) s)
  info_kept fresh bed i j s l f q =
      let n = q.long in
      table_stored s (with_info fresh bed i (info_bytes * j) s) j (head_of bed i) i.gain i.size i.send
      (info_stored P fresh bed i (info_bytes * j) s (omega arith) f) f.holds q

  -- ---- the infos of an element

  object_kept : (fresh bed : Bool) (x : Element) (first o : ℕ) (s : List ℕ) → first + 8 ≤ 512 → x.blocks ≤ 8 → ((b : ℕ) → b < x.blocks → Fit P bed (x.info o b)) → Table P s →
      Table P (object_stored fresh bed x first o s)
  unfolding object_stored
  object_kept fresh bed x first o s l few f q =
      times_in (Table P) (info_given fresh bed x first o) x.blocks (λ b t m i. info_kept fresh bed (x.info o b) (first + b) t (omega arith) (f b m) i) x.blocks 0
      (omega arith) s q

  pub objects_kept : (fresh : Bool) (isf : ℕ) (x : Element) (first n : ℕ) (s : List ℕ) → first + 256 ≤ 512 → n ≤ 32 → x.blocks ≤ 8 →
      ((bed : Bool) (o b : ℕ) → o < n → b < x.blocks → Fit P bed (x.info o b)) → Table P s → Table P (objects_stored fresh isf x first n s)
  unfolding objects_stored
  objects_kept fresh isf x first n s l most few f q =
      times_in (Table P) (object_given fresh isf x first) n
      (λ o t m i. object_kept fresh (ltb o isf) x (first + 8 * o) o t (omega arith) few (λ b h. f (ltb o isf) o b m h) i)
      n 0 (omega arith) s q
