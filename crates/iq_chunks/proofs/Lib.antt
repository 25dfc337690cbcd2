pub mod PageRows
pub mod ChunkReads
pub mod ChunkGrowth
pub mod ChunkClears
