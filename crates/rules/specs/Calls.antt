-- Calls in a row: what each answers, gives out and leaves, on a renderer. Assumes nothing.
use Rattle.std.specs.Prelude.{ℕ, Bool, true, false, not, cond, List, [], ◌∷◌, map, eqb, ltb, length, Option}
use Rattle.vectors.specs.declared.Vec3.{Vec3}
use Rattle.limiter.specs.Meters.{call_meters, idle_meters}
use Rattle.limiter.specs.declared.meters.Meters.{Meters}
use Rattle.panning.specs.Setup.{Setup, hall_with}
use Rattle.rules.specs.Parts.{Channels, none}
use Rattle.rules.specs.Leaves.{Leaves}
use Rattle.rules.specs.Mix.{Moment}
use Rattle.rules.specs.Samples.{Frame, State, fresh, After, pushed, flushed}
use Rattle.rules.specs.Refusals.{Args, Found, clear, stop, ◌then◌, unless, room, early, Announced, later}
use Rattle.rules.specs.Making.{layout_found, table_found, hall_of}
use Rattle.finding.specs.Search.{search}

-- A call, with all that the host lends besides the state block. Later requests add their calls here.
pub data Call : Type 0 where
  push : Args → Call
  -- output and stride
  flush : List ℕ → ℕ → Call
  reset : Call
  -- R-5: "A call of its own now makes a renderer in a block": the layout's code
  make : ℕ → Call
  -- R-6: "A second making call takes [a hall table] in place of the built-in table": the layout's code and the table's bytes
  make_with : ℕ → List ℕ → Call
  -- R-11: hold a dynamic object (true), or release it (false): its number
  mark : Bool → ℕ → Call
  -- R-13: where to put a sound: the mask of the speakers that should sound
  find : ℕ → Call

abbrev pub hold : ℕ → Call
hold d = mark true d

abbrev pub release : ℕ → Call
release d = mark false d

pub data Answer : Type 0 where
  -- number and two counts
  refused : ℕ → ℕ → ℕ → Answer
  -- the ready samples, and the meters of their blocks
  rendered : Channels → Meters → Answer
  -- a flush with nothing pending
  nothing : Answer
  -- a reset, or a renderer made
  cleared : Answer
  -- a hold or a release: whether it changed anything
  marked : Bool → Answer
  -- the place that was asked for, or none
  place : Option Vec3 → Answer

abbrev pub is_refused : Answer → Bool
is_refused (refused n a b) = true
is_refused (rendered rs m) = false
is_refused nothing = false
is_refused cleared = false
is_refused (marked c) = false
is_refused (place p) = false

-- "Given out are the ready samples that accepted pushes and flushes write."
abbrev pub given : Answer → Channels
given (refused n a b) = none
given (rendered rs m) = rs
given nothing = none
given cleared = none
given (marked c) = none
given (place p) = none

-- R-2: "with no block ready, they are 0 and 1": so too of every other answer
abbrev pub meters_of : Answer → Meters
meters_of (refused n a b) = idle_meters
meters_of (rendered rs m) = m
meters_of nothing = idle_meters
meters_of cleared = idle_meters
meters_of (marked c) = idle_meters
meters_of (place p) = idle_meters

-- both, or neither
abbrev pub alike_marks : Bool → Bool → Bool
alike_marks true b = b
alike_marks false b = not b

module _ (L : Leaves) where
  -- the updates of a push: those that wait, then its own
  abbrev pub updates_in : State L → Args → List L.Update
  updates_in r a = L.updates r.clock.position a.samples r.waits a.meta

  abbrev pub frame_with : List L.Update → Args → Frame L.Update
  frame_with us a = record { rate = a.rate; samples = a.samples; codes = a.codes; objects = a.objects; pcm = a.pcm; updates = us }

  abbrev pub frame_of : State L → Args → Frame L.Update
  frame_of r a = frame_with (updates_in r a) a

  -- the updates as 9 to 14 see them
  abbrev pub announced : List L.Update → List Announced
  announced us = map (λ (u : L.Update). record { offset = L.offset u; shape = L.sent u }) us

  -- 1 to 8, and 9 to 14 with these updates
  abbrev pub found_with : List L.Update → State L → Args → Found
  found_with us r a =
      early L r a
      then later (announced us) a.objects a.codes a.samples a.rate r.rate (L.shape r.meta)

  -- refusals 1 to 14 of a push, and R-12's: "25 when more would wait, after 8"
  abbrev pub found : State L → Args → Found
  found r a =
      early L r a
      then unless (L.fits r.clock.position a.samples r.waits a.meta) 25 0 0
      then later (announced (updates_in r a)) a.objects a.codes a.samples a.rate r.rate (L.shape r.meta)

  pub record Result : Type 0 where
    pub answer : Answer
    pub next : State L
    pub moments : List Moment

  -- R-2: "Push and flush hand on the greatest peak and the least gain of the call."
  abbrev pub answered : After L → Answer
  answered d = rendered d.given (call_meters d.meters)

  abbrev pub with_waits : L.Waits → State L → State L
  with_waits ws r =
      record { setup = r.setup; rate = r.rate; clock = r.clock; limiter = r.limiter; filter = r.filter; meta = r.meta; pending = r.pending; waits = ws }

  -- R-12: what waits after an accepted push
  abbrev pub ahead_after : State L → Args → L.Waits
  ahead_after r a = L.settle r.clock.position a.samples r.waits a.meta

  abbrev pub asked : Found → Args → State L → Result
  asked (stop n a b) args r = record { answer = refused n a b; next = r; moments = [] }
  asked clear args r = let d = pushed L (frame_of r args) r in record { answer = answered d; next = with_waits (ahead_after r args) d.next; moments = d.moments }

  -- "Flush checks 1 first, and with nothing pending says none"
  abbrev pub drained : Bool → Bool → State L → Result
  drained false idle r = record { answer = refused 1 0 0; next = r; moments = [] }
  drained true true r = record { answer = nothing; next = r; moments = [] }
  drained true false r = let d = flushed L r in record { answer = answered d; next = d.next; moments = [] }

  -- a making call: where nothing stops it, there is a new renderer in the hall h, whatever was there
  abbrev pub making : Found → Setup → State L → Result
  making (stop n a b) h r = record { answer = refused n a b; next = r; moments = [] }
  making clear h r = record { answer = cleared; next = fresh L h; moments = [] }

  -- R-11: "24, an object number not below the last applied update's count, 0 without one": how many objects can be held
  abbrev pub numbered : State L → ℕ
  numbered r = let s = L.shape r.meta in cond s.started s.objects 0

  -- the renderer with another timed state
  abbrev pub with_meta : L.Meta → State L → State L
  with_meta m r = record { setup = r.setup; rate = r.rate; clock = r.clock; limiter = r.limiter; filter = r.filter; meta = m; pending = r.pending; waits = r.waits }

  -- "A second hold, or a release without one, changes nothing": where `known`, what is asked for has been asked for
  abbrev pub marking : Bool → Bool → Bool → ℕ → State L → Result
  marking false known w d r = record { answer = refused 24 0 0; next = r; moments = [] }
  marking true true w d r = record { answer = marked false; next = r; moments = [] }
  marking true false w d r = record { answer = marked true; next = with_meta (L.want w d r.meta) r; moments = [] }

  -- reset starts anew in the hall that the renderer has; R-6: "reset keeps [the table]"
  abbrev pub step : State L → Call → Result
  step r (push a) = asked (found r a) a r
  step r (flush out stride) = drained (room stride (length out)) (eqb r.pending.count 0) r
  step r reset = record { answer = cleared; next = fresh L r.setup; moments = [] }
  step r (make n) = making (layout_found n) (hall_with n) r
  step r (make_with n t) = making (table_found n t) (hall_of n t) r
  step r (mark w d) = marking (ltb d (numbered r)) (alike_marks w (L.wants d r.meta)) w d r
  -- R-13: "The renderer's present layout and hall table apply."
  step r (find mask) = record { answer = place (search r.setup mask); next = r; moments = [] }

  -- the list's results, each call being handed what the one before left
  abbrev pub run : State L → List Call → List Result
  run r [] = []
  run r (c ∷ cs) = step r c ∷ run (step r c).next cs

  abbrev pub final : State L → List Call → State L
  final r [] = r
  final r (c ∷ cs) = final (step r c).next cs

  -- the list without its refused calls
  abbrev pub kept : State L → List Call → List Call
  kept r [] = []
  kept r (c ∷ cs) = cond (is_refused (step r c).answer) (kept (step r c).next cs) (c ∷ kept (step r c).next cs)

  -- the results of the calls that were not refused
  abbrev pub accepted : List Result → List Result
  accepted [] = []
  accepted (x ∷ xs) = cond (is_refused x.answer) (accepted xs) (x ∷ accepted xs)
