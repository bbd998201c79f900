-- Where a frame starts. Assumes nothing.
use Rattle.clock.specs.declared.FrameOffset.{FrameOffset}

-- the frame's first sample
abbrev pub frame_start : FrameOffset
frame_start = record { 0 = 0 }
