-- The numbers that are the same in every data file and every namespace (MongoDB 2.6, MMAPv1).
use Rattle.std.specs.Prelude.{ℕ, ℤ, pos, negsuc}

-- the version of a data file, and its minor version
abbrev pub data_file_version : ℕ
data_file_version = 4

abbrev pub data_file_version_minor : ℕ
data_file_version_minor = 5

-- the first word of an extent
abbrev pub extent_magic : ℕ
extent_magic = 0x41424344

-- the flags of a bucket
abbrev pub bucket_flags : ℤ
bucket_flags = pos 1

-- the link of a record at an end of its extent's chain: -1
abbrev pub chain_end : ℤ
chain_end = negsuc 0

-- a namespace's padding: the bits of the double 1.0
abbrev pub padding : ℕ
padding = 0x3ff0000000000000

-- the most documents of a capped collection, where it isn't capped
abbrev pub max_docs_uncapped : ℤ
max_docs_uncapped = pos 0x7fffffff

-- the flags of a collection, those of the system and those of the user: it has an index on `_id`; its records take powers of two
abbrev pub collection_flags : ℤ
collection_flags = pos 1

-- how many lists of deleted blocks a namespace has, and how many pairs of indexes its details have room for
abbrev pub deleted_lists : ℕ
deleted_lists = 19

abbrev pub index_pairs : ℕ
index_pairs = 10
