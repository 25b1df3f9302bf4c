-- Sets of laws for the proofs of readers and writers.
use Rattle.std.proofs.lemmas.Int.{to_z-of_z}
use Rattle.mm_base.proofs.Parts.{length_joined, overwritten_on, part_front, part-part, part_left, part_right, part_whole, overwritten_whole, part_before, part_behind, part-overwritten}
use Rattle.mm_base.proofs.Numbers.{length-u16_bytes, length-u32_bytes, length-u64_bytes, length-i32_bytes, length-i64_bytes, length-zeros, u16_again, u32_again, u64_again, i32_again, i64_again}
use Rattle.mm_base.proofs.PlaceLaws.{length-place_bytes, place_again, places_again, length-places_bytes}

pub ruleset lengths = (length_joined, length-u16_bytes, length-u32_bytes, length-u64_bytes, length-i32_bytes, length-i64_bytes, length-zeros, length-place_bytes, length-places_bytes)

pub ruleset writes = (overwritten_on, to_z-of_z, lengths)

-- what was spelled is read
pub ruleset again = (part_left, part_right, part_whole, lengths, u16_again, u32_again, u64_again, i32_again, i64_again, place_again, places_again)

pub ruleset reads = (part_front, part-part, to_z-of_z)

pub ruleset values = (u16_again, u32_again, u64_again, i32_again, i64_again, place_again, places_again)

pub ruleset signed = to_z-of_z

-- a frame of which one field was written
pub ruleset one_field = (part_before, part_behind, part-overwritten, lengths, values)

-- a frame in an array of its own
pub ruleset whole = (overwritten_whole, part_whole)
