-- A reader may skip this file: the frame's loop: the samples of a turn, what a push that no refusal turned away hands to it, and what it leaves. Assumes nothing.
use Rattle.std.specs.Prelude.{ℕ, ◌-◌, ◌≡◌, Bool, true, cond, List, min, length}
use Rattle.words.specs.Words.{words_at}
use Rattle.limiter.specs.Meters.{unmet, meets_all}
use Rattle.rules.specs.Refusals.{Args, clear}
use Rattle.rules.specs.Samples.{After}
use Rattle.rules.specs.Calls.{found_with}
use Rattle.rules.specs.BlockCalls.{written}
use Rattle.store.specs.declared.renderer.Renderer714.{Renderer714}
use Rattle.store.specs.Fields.{small_of}
use Rattle.store.specs.Layout.{small_width, decode}
use Rattle.store.specs.ValidBlocks.{valid}
use Rattle.theorem.specs.Instance.{Sent, hall}
use Rattle.rendering.specs.declared.Rendering.{Rendering}
use Rattle.rendering.specs.Held.{IsNext}

-- ---- the samples of a turn

-- up to the end of the block, of the slot where the clock runs, and of the `left` samples before the next update or the frame's end
abbrev pub run_length : Bool → ℕ → ℕ → ℕ → ℕ
run_length started phase pending left = cond started (min (64 - phase) (min (64 - pending) left)) (min (64 - pending) left)

-- ---- a push

-- s is the small part of the valid block b, and with the updates us the push is not refused
pub record Accepted (s : Renderer714) (b : List ℕ) (us : List Sent) (a : Args) : Type 0 where
  pub small : s ≡ small_of (words_at b 0 small_width)
  pub valid : valid b ≡ true
  pub clear : found_with hall us (decode b) a ≡ clear

-- r is answered, with the block b and the output o' at exit, where b₀ was the block and o the output: p is what the rules say that the push leaves and gives out
pub record IsRendered (p : After hall) (stride : ℕ) (b₀ o : List ℕ) (r : Rendering) (b o' : List ℕ) : Type 0 where
  pub next : IsNext p.next b₀ r.renderer b
  pub given : o' ≡ written p.given stride o
  pub ready : r.ready ≡ length (p.given 0)
  pub meters : r.meters ≡ meets_all unmet p.meters
