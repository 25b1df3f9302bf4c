-- The code's constants are the format's numbers.
use Rattle.std.proofs.Common.{◌≡◌, refl}
use Rattle.mm_frames.specs.Numbers.{data_file_version, data_file_version_minor, extent_magic, bucket_flags, chain_end, padding, max_docs_uncapped, collection_flags, deleted_lists, index_pairs}
use Rattle.mm_frames.specs.declared.file_header.TheConstants.{DATA_FILE_VERSION, DATA_FILE_VERSION_MINOR}
use Rattle.mm_frames.specs.declared.extent_header.TheConstants.{EXTENT_MAGIC}
use Rattle.mm_frames.specs.declared.bucket_header.TheConstants.{BUCKET_FLAGS}
use Rattle.mm_frames.specs.declared.rec_header.TheConstants.{CHAIN_END}
use Rattle.mm_frames.specs.declared.details.TheConstants.{PADDING, MAX_DOCS_UNCAPPED, COLLECTION_FLAGS, DELETED_LISTS, INDEX_PAIRS}

pub data_file_version_is : DATA_FILE_VERSION ≡ data_file_version
data_file_version_is = refl

pub data_file_version_minor_is : DATA_FILE_VERSION_MINOR ≡ data_file_version_minor
data_file_version_minor_is = refl

pub extent_magic_is : EXTENT_MAGIC ≡ extent_magic
extent_magic_is = refl

pub bucket_flags_is : BUCKET_FLAGS ≡ bucket_flags
bucket_flags_is = refl

pub chain_end_is : CHAIN_END ≡ chain_end
chain_end_is = refl

pub padding_is : PADDING ≡ padding
padding_is = refl

pub max_docs_uncapped_is : MAX_DOCS_UNCAPPED ≡ max_docs_uncapped
max_docs_uncapped_is = refl

pub collection_flags_is : COLLECTION_FLAGS ≡ collection_flags
collection_flags_is = refl

pub deleted_lists_is : DELETED_LISTS ≡ deleted_lists
deleted_lists_is = refl

pub index_pairs_is : INDEX_PAIRS ≡ index_pairs
index_pairs_is = refl
