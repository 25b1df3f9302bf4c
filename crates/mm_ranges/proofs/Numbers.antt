-- The code's constants are the numbers of the definitions.
use Rattle.std.proofs.Common.{◌≡◌, refl}
use Rattle.mm_ranges.specs.Limits.{ns_file, most_of_ns, most_of_data, page_len}
use Rattle.mm_ranges.specs.declared.limits.TheConstants.{NS_FILE, MAX_NS_LEN, MAX_FILE_LEN, PAGE_LEN}

pub ns_file_is : NS_FILE ≡ ns_file
ns_file_is = refl

pub most_of_ns_is : MAX_NS_LEN ≡ most_of_ns
most_of_ns_is = refl

pub most_of_data_is : MAX_FILE_LEN ≡ most_of_data
most_of_data_is = refl

pub page_len_is : PAGE_LEN ≡ page_len
page_len_is = refl
