-- The one word of the libraries that is used here under another name; docs/READING.md says how each of their words is read.
pub use Rattle.std.specs.Bool.{beq as bool_eq}
