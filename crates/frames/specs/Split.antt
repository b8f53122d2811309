-- What a frame of the code stands for.
use Rattle.frames.specs.declared.split.Frame as split
use Rattle.frames.specs.Frames.{Frame}

abbrev pub frame_of : split.Frame → Frame
frame_of f = record { source = f.source; bytes = f.bytes.now; rest = f.rest.now }
