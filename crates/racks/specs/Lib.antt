-- A rack split into its files, its replies, what the call answers, and what `rack` promises of it.
pub mod Rack
-- What single calls in its order give.
pub mod Singly
-- The worked racks, computed.
pub mod Worked
-- Terms of the code: a reader may skip them.
pub mod Inner
