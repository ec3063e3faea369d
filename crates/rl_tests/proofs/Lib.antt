pub mod AlikeFrames
