-- Lemmas of the crate: parts of slices, and names.
mod FileNames
mod Parts
