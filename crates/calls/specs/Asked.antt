-- Document 01's `hallrender`: the calls that its records ask for, and what they leave of the output. Assumes nothing.
use Rattle.std.specs.Prelude.{ℕ, Bool, cond, ◌&&◌, ◌||◌, List, eqb, get_or, take, drop}
use Rattle.words.specs.Words.{half, word}
use Rattle.rules.specs.Refusals.{Args, args_of}
use Rattle.rules.specs.Calls.{Call, push, flush, reset, make, make_with, mark, find}
use Rattle.rules.specs.BlockCalls.{made}
use Rattle.theorem.specs.Instance.{hall, block}
use Rattle.framing.specs.declared.request.Plain.{Plain}
use Rattle.framing.specs.declared.request.Plain.TheVariants.{Flush, Reset}
use Rattle.framing.specs.Framing.{bed_count, is_frame, is_plain, is_body, metadata_bytes, pcm_of}

-- "frame (4-7 rate, 8-9 samples, 10 beds, 11 objects, .., 14-31 codes)"; "Its stride is 256"
abbrev pub frame_args : List ℕ → List ℕ → List ℕ → List ℕ → Args
frame_args r meta pcm out = args_of pcm meta out (take (bed_count r) (drop 14 r)) (word r 4) (half r 8) (get_or r 11 0) 256

-- what a call leaves of the output; a reset is lent none, and no record makes a renderer, holds an object or searches
abbrev pub out_after : Call → List ℕ → List ℕ → List ℕ
out_after (push a) b out = (made hall block (push a) b).out
out_after (flush o stride) b out = (made hall block (flush o stride) b).out
out_after reset b out = out
out_after (make n) b out = out
out_after (make_with n t) b out = out
out_after (mark w d) b out = out
out_after (find m) b out = out

-- the push of a frame with the header r: of the metadata in its body, and of the PCM that the body's records hold
abbrev pub push_of : List ℕ → List ℕ → List ℕ → Call
push_of r body out = push (frame_args r (take (metadata_bytes r) body) (pcm_of r body) out)

-- the call that a flush or a reset is
abbrev pub asked_alone : Plain → List ℕ → Call
asked_alone Flush out = flush out 256
asked_alone Reset out = reset

-- "7, flush; 8, reset."
unfoldable pub plain_call : List ℕ → List ℕ → Call
plain_call r out = cond (eqb (get_or r 0 0) 7) (flush out 256) reset

-- "5, frame"
unfoldable pub call_of : List ℕ → List ℕ → List ℕ → Call
call_of r body out = cond (eqb (get_or r 0 0) 5) (push_of r body out) (plain_call r out)

-- a frame with its body, a flush or a reset, as laid out
abbrev pub is_call : List ℕ → List ℕ → Bool
is_call r body = is_frame r && is_body r body || is_plain r
