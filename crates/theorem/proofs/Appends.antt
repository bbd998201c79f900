-- A push that completes no block lays its samples behind those that wait, and leaves every other byte of the places alone: on a block of any bytes that it takes. Assumes nothing.
use Prim.Native.Nat.{ℕ, ◌+◌, ◌*◌, ◌<◌}
use mathlib.Core.Path.{◌≡◌, refl, sym, ap, ◌∙◌, subst}
use mathlib.Core.Bool.{Bool, true, false, cond}
use mathlib.Core.List.{List}
use native.Mathlib.Nat.{le_refl}
use native.Mathlib.Omega.{arith}
use lib.Dec.{T}
use lib.ListN.{get_or}
use Rattle.words.specs.Words.{Bytes, word}
use Rattle.words.proofs.Theorems.{same_bytes}
use Rattle.formats.specs.Areas.{row_count, row_places, row_bytes}
use Rattle.formats.proofs.Theorems.{word_of_run}
use Rattle.rules.specs.Samples.{State, pushed}
use Rattle.rules.specs.Ranges.{Ranged}
use Rattle.rules.specs.Refusals.{Args, Found, clear, stop}
use Rattle.rules.specs.Calls.{push, refused, is_refused, found, Result, asked}
use Rattle.rules.specs.BlockCalls.{Outcome, left, made}
use Rattle.rules.proofs.Theorems.{Behind, behind}
use Rattle.store.specs.Layout.{places_at, decode, encode}
use Rattle.store.proofs.Theorems.{places_row, encode_bytes, bytes_append}
use Rattle.theorem.specs.Instance.{hall, block, front, block_decode, block_encode, block_valid}
use Rattle.theorem.specs.Appends.{place_at, AppendsIfOpen}
use Rattle.theorem.proofs.BlockRanges.{AllRanged, back_of, decoded_of}
use Rattle.theorem.proofs.Front.{front_word}
use Rattle.theorem.proofs.Demand3.{accepted_within}

-- a place's word, in a block and in the renderer that it holds
place_word : (b : List ℕ) (c i : ℕ) → c < row_count → i < row_places → word b (place_at c i) ≡ get_or ((block_decode b).pending.places c) i 0
unfolding decode
place_word b c i l h =
    sym (front_word b (place_at c i) (omega arith))
    ∙ sym (ap (λ (ws : List ℕ). get_or ws i 0) (places_row (front b) c l) ∙ word_of_run (front b) (places_at + row_bytes * c) row_places i (place_at c i) h refl)

pub encoded_word : (r : State hall) → AllRanged r → (c i : ℕ) → c < row_count → i < row_places → word (block_encode r) (place_at c i) ≡ get_or (r.pending.places c) i 0
encoded_word r g c i l h = place_word (block_encode r) c i l h ∙ ap (λ (x : State hall). get_or (x.pending.places c) i 0) (back_of r g)

-- a place whose word the renderer keeps keeps its bytes
pub place_kept : (b : List ℕ) → Bytes b → (r : State hall) → AllRanged r → (c i k : ℕ) → c < row_count → i < row_places → k < 4
    → get_or (r.pending.places c) i 0 ≡ get_or ((block_decode b).pending.places c) i 0 → get_or (block_encode r) (place_at c i + k) 0 ≡ get_or b (place_at c i + k) 0
place_kept b bytes r g c i k l h j e =
    same_bytes (block_encode r) b (bytes_append (encode r) r.waits (encode_bytes r g.renderer.meta.infos.bytes) g.ahead.bytes) bytes (place_at c i) 4
    (encoded_word r g c i l h ∙ e ∙ sym (place_word b c i l h)) k j

module _ (b : List ℕ) (bytes : Bytes b) (a : Args) (lent : Bytes a.meta) (v : block_valid b ≡ true) (e : found hall (block_decode b) a ≡ clear) where
  abbrev r : State hall
  r = block_decode b

  abbrev next : State hall
  next = (asked hall clear a r).next

  before_ranged : AllRanged r
  before_ranged = decoded_of b bytes v

  ranged : AllRanged next
  ranged = accepted_within r a lent e before_ranged

  accepted_appends : AppendsIfOpen a b (block_encode next)
  unfolding pushed
  accepted_appends few =
      let q : Behind hall r a few before_ranged.renderer.long a.samples = behind hall r a few before_ranged.renderer.long a.samples (le_refl a.samples) in
      record {
        new = λ c t l here h. encoded_word next ranged c (r.pending.count + t) l (omega arith) ∙ q.new c t l (subst T (sym here) tt) h;
        others = λ c i k l h j o. place_kept b bytes next ranged c i k l h j (q.others c i o);
      }

-- ---- as the host calls it

-- a push that is not refused was taken, and nothing turned it away
pub appends : (b : List ℕ) → Bytes b → (a : Args) → Bytes a.meta → is_refused (made hall block (push a) b).answer ≡ false → AppendsIfOpen a b (made hall block (push a) b).state
appends b bytes a lent ok = go (block_valid b) refl ok
  where
    r : State hall
    r = block_decode b

    x : Found → Result hall
    x v = asked hall v a r

    after : Found → Outcome
    after v = left hall block (x v).answer (x v).next a.out a.stride b

    by : (f : Found) → found hall r a ≡ f → block_valid b ≡ true → is_refused (after f).answer ≡ false → AppendsIfOpen a b (after f).state
    by (stop n y z) e v ok = absurd (subst T ok tt)
    by clear e v ok = accepted_appends b bytes a lent v e

    go : (v : Bool) → block_valid b ≡ v → is_refused (cond v (after (found hall r a)) (record { answer = refused 1 0 0; state = b; out = a.out })).answer ≡ false
        → AppendsIfOpen a b (cond v (after (found hall r a)) (record { answer = refused 1 0 0; state = b; out = a.out })).state
    go true v ok = by (found hall r a) refl v ok
    go false v ok = absurd (subst T ok tt)
