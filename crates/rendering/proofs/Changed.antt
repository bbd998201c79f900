-- The infos of a block, lent and changed: the small part's bytes, the places and the hall stay. Assumes nothing.
use Prim.Native.Nat.{ℕ, ◌+◌, ◌≤◌}
use mathlib.Core.Path.{◌≡◌, sym, ap, ◌∙◌, subst}
use mathlib.Core.List.{List, ◌++◌}
use native.Mathlib.Omega.{arith}
use lib.Dec.{lit≤}
use lib.ListN.{length, take, drop, length-append, length-drop}
use lib.Seq.{length-take-le, take_at, drop_at, drop-drop}
use Rattle.store.specs.declared.renderer.Renderer714.{Renderer714}
use Rattle.store.specs.Layout.{infos_at, places_at, size, assembled, infos_of, places_of, setup_in}
use Rattle.store.proofs.Theorems.{places_beside, setup_beside}
use Rattle.formats.specs.Areas.{infos_bytes, places_bytes}
use Rattle.chunk.specs.ChunkRows.{small_bytes, hall_bytes_of}
use Rattle.rendering.specs.Held.{held}

-- a block with other infos
abbrev pub changed : List ℕ → List ℕ → List ℕ
changed b is = take infos_at b ++ (is ++ drop infos_bytes (drop infos_at b))

-- ---- n of a list, from place a on, replaced by as many

module _ (a n : ℕ) (b is : List ℕ) (within : a + n ≤ length b) (long : length is ≡ n) where
  abbrev put : List ℕ
  put = take a b ++ (is ++ drop n (drop a b))

  front : length (take a b) ≡ a
  front = length-take-le a b (omega arith)

  rest : drop a put ≡ is ++ drop n (drop a b)
  rest = drop_at (take a b) (is ++ drop n (drop a b)) a front

  put_long : length put ≡ length b
  put_long =
      let f = front in
      rw (length-append, length-append, length-drop, length-drop) (omega arith)

  put_front : take a put ≡ take a b
  put_front = take_at (take a b) (is ++ drop n (drop a b)) a front

  put_part : take n (drop a put) ≡ is
  put_part = ap (take n) rest ∙ take_at is (drop n (drop a b)) n long

  put_past : drop (a + n) put ≡ drop (a + n) b
  put_past = sym (drop-drop n a put) ∙ ap (drop n) rest ∙ drop_at is (drop n (drop a b)) n long ∙ drop-drop n a b

-- ---- the infos of a block

module _ (b is : List ℕ) (whole : length b ≡ size) (long : length is ≡ infos_bytes) where
  within : infos_at + infos_bytes ≤ length b
  within = subst (λ (m : ℕ). infos_at + infos_bytes ≤ m) (sym whole) (lit≤ tt)

  pub changed_long : length (changed b is) ≡ size
  changed_long = put_long infos_at infos_bytes b is within long ∙ whole

  pub changed_small : small_bytes (changed b is) ≡ small_bytes b
  changed_small = put_front infos_at infos_bytes b is within long

  changed_infos : infos_of (changed b is) ≡ is
  changed_infos = put_part infos_at infos_bytes b is within long

  past : drop places_at (changed b is) ≡ drop places_at b
  past = put_past infos_at infos_bytes b is within long

  changed_places : places_of (changed b is) ≡ places_of b
  changed_places = places_beside b (changed b is) past

  pub changed_hall : hall_bytes_of (changed b is) ≡ hall_bytes_of b
  changed_hall = sym (drop-drop places_bytes places_at (changed b is)) ∙ ap (drop places_bytes) past ∙ drop-drop places_bytes places_at b

  changed_setup : setup_in (changed b is) ≡ setup_in b
  changed_setup = setup_beside b (changed b is) changed_hall

  pub changed_held : (s : Renderer714) → held s (changed b is) ≡ assembled s is (places_of b) (setup_in b)
  changed_held s = λ i. assembled s (changed_infos i) (changed_places i) (changed_setup i)
