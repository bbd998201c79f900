-- A reader may skip this file: the output while a frame is rendered: a block goes behind those before it. Assumes nothing.
use Rattle.std.specs.Prelude.{ℕ, zero, suc, ◌+◌, ◌*◌, List, map}
use Rattle.std.specs.Float.{binary32}
use Rattle.std.specs.Float.Ieee.{to_bits}
use Rattle.words.specs.Words.{with_words}
use Rattle.rules.specs.Parts.{Channels}

-- n channels from c on, each from its place k on
abbrev pub behind_from : ℕ → ℕ → ℕ → Channels → ℕ → List ℕ → List ℕ
behind_from zero c k given stride out = out
behind_from (suc n) c k given stride out = behind_from n (suc c) k given stride (with_words out (4 * (c * stride + k)) (map (to_bits binary32) (given c)))

-- the samples of all twelve channels behind k others; `written` of the rules where k is 0
unfoldable pub behind : ℕ → Channels → ℕ → List ℕ → List ℕ
behind k given stride out = behind_from 12 0 k given stride out
