use Rattle.std.proofs.lemmas.Str.{is_utf8-from_IsUtf8}
use Rattle.mm_bson.proofs.text.Text.from_str.Goals as goal

pub from_slice-requires : goal.from_slice-requires
from_slice-requires c = is_utf8-from_IsUtf8 c.as_bytes.result.now c.as_bytes.ensures.utf8
