-- How long a block is, and which documents find room in the one extent.
use Rattle.std.specs.Prelude.{ℕ, zero, suc, ◌+◌, ◌-◌, ◌*◌, ◌/◌, if◌then◌else◌, nat_le, nat_lt, List, [], ◌∷◌, length}
use Rattle.mm_bson.specs.Tree.{Elements}
use Rattle.mm_bson.specs.Spelling.{spelling}
use Rattle.mm_main.specs.declared.answers.Reply.{Reply}
use Rattle.mm_main.specs.declared.answers.Reply.TheVariants.{Done, NoSpace}

-- the length of the data file `test.0`
abbrev pub file_len : ℕ
file_len = 1_048_576

-- its one extent, which takes all of the file behind the file's header
abbrev pub extent_at : ℕ
extent_at = 8192

abbrev pub extent_len : ℕ
extent_len = 1_040_384

-- the first record lies behind the extent's header
abbrev pub first_at : ℕ
first_at = 8368

-- the least block, and the most that is a power of two
abbrev pub least_block : ℕ
least_block = 32

abbrev pub greatest_power : ℕ
greatest_power = 4_194_304

-- longer blocks are multiples of this
abbrev pub big_step : ℕ
big_step = 1_048_576

-- the first of r, 2 * r, 4 * r and so on that is at least n, or the last of so many
unfoldable pub doubled_to : ℕ → ℕ → ℕ → ℕ
doubled_to zero r n = r
doubled_to (suc k) r n = if nat_le n r then r else doubled_to k (2 * r) n

-- The length of the block that a payload of p bytes asks for, with its header of 16 bytes: a power of two from 32 on up to 4 MiB,
-- and above that a multiple of 1 MiB.
unfoldable pub request : ℕ → ℕ
request p = if nat_le (p + 16) greatest_power then doubled_to 17 least_block (p + 16) else (p + 16 + big_step - 1) / big_step * big_step

-- The length of the block that a record takes at an offset. A rest that is no block belongs to it.
unfoldable pub block_len : ℕ → ℕ → ℕ
block_len at p = if nat_lt (file_len - at - request p) least_block then file_len - at else request p

-- the reply to each document, where the blocks before it end at an offset
abbrev pub replies_from : ℕ → List Elements → List Reply
replies_from at [] = []
replies_from at (doc ∷ docs) =
    if nat_le (request (length (spelling doc))) (file_len - at) then Done ∷ replies_from (at + block_len at (length (spelling doc))) docs
    else NoSpace ∷ replies_from at docs

abbrev pub replies_of : List Elements → List Reply
replies_of docs = replies_from first_at docs

-- the documents that were answered `ok 1`
abbrev pub stored_by : List Reply → List Elements → List Elements
stored_by [] docs = []
stored_by (reply ∷ replies) [] = []
stored_by (Done ∷ replies) (doc ∷ docs) = doc ∷ stored_by replies docs
stored_by (NoSpace ∷ replies) (doc ∷ docs) = stored_by replies docs

abbrev pub stored : List Elements → List Elements
stored docs = stored_by (replies_of docs) docs
