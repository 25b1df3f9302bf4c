-- What a call asks of its store at most: how many places for buckets, and how much of its files. A range that is declared weighs its length and 12.
use Rattle.std.specs.Prelude.{ℕ, ◌+◌, ◌*◌, min}

-- ---- what is declared

-- a bucket that is written: all of its 8192 bytes
abbrev pub bucket_weighs : ℕ
bucket_weighs = 8204

-- the parent of a bucket alone, 8 bytes
abbrev pub parent_weighs : ℕ
parent_weighs = 20

-- a place that is taken, and the bucket there: the lists of the store's blocks weigh 2500 besides
abbrev pub place_weighs : ℕ
place_weighs = 10704

-- a place that is given back
abbrev pub freeing_weighs : ℕ
freeing_weighs = 912

-- All children of a bucket get another parent. A bucket has 452 pairs at most, each of 18 bytes or more in a body of 8152, and so 453 children.
abbrev pub adopting_weighs : ℕ
adopting_weighs = 453 * parent_weighs

-- a bucket is written as two: one at a new place, whose children get it as their parent
abbrev pub settling_weighs : ℕ
settling_weighs = place_weighs + bucket_weighs + adopting_weighs

-- a new root, which its children get as their parent
abbrev pub growing_weighs : ℕ
growing_weighs = place_weighs + adopting_weighs

-- two neighbours are parted anew: the right one's children go to the left one, both are written, and the right one's get it as their parent
abbrev pub joining_weighs : ℕ
joining_weighs = adopting_weighs + bucket_weighs + bucket_weighs + adopting_weighs

-- two neighbours are parted anew, and the bucket above them as two, since the pair between them is longer
abbrev pub mending_weighs : ℕ
mending_weighs = joining_weighs + settling_weighs

-- a pair is put into a subtree whose leaves are so many levels down, or another pair in its stead: a bucket of each level parts
abbrev pub below_weighs : ℕ → ℕ
below_weighs height = settling_weighs * (height + 1)

-- a pair is taken out of one: its leaf is written, and a bucket of each level above is mended
abbrev pub taking_weighs : ℕ → ℕ
taking_weighs height = bucket_weighs + mending_weighs * height

-- ---- a call on a tree whose leaves are so many levels below the root

-- a bucket of each level parts, and there is a new root
abbrev pub insert_asks : ℕ → ℕ
insert_asks height = height + 2

abbrev pub insert_weighs : ℕ → ℕ
insert_weighs height = below_weighs height + growing_weighs

-- A bucket of each level above the leaves parts, and there is a new root; then a pair takes the place of the one that was asked for, for which a bucket of
-- each level parts, and there is a new root again.
abbrev pub remove_asks : ℕ → ℕ
remove_asks height = height + 1 + insert_asks (height + 1)

abbrev pub remove_weighs : ℕ → ℕ
remove_weighs height = taking_weighs height + growing_weighs + insert_weighs (height + 1)

-- ---- what a command may take of an index's node that adds or takes out so many keys of it

-- so many places for buckets, each a block of 8208 bytes
abbrev pub requests : ℕ → ℕ → ℕ → ℕ
requests keys before after = min (32 * keys) (before + after) + 40

-- so much, where its buckets are so many: twice the length of what they lie in, and 16,512 a request
abbrev pub may_weigh : ℕ → ℕ → ℕ
may_weigh buckets places = 2 * (8208 * buckets) + 16512 * places
