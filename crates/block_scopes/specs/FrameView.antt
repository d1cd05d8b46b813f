-- The frame that a frame in memory is.
use Rattle.algolw_typing.specs.Naming as naming
use Rattle.block_scopes.specs.declared.frame.Frame.{Frame}

abbrev pub frame_view : Frame → naming.Frame
frame_view f = record { level = f.level; slot = f.slot }
