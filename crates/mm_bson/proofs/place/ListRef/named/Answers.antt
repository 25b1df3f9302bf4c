use Rattle.std.proofs.Common.{sym, ap, ◌∙◌}
use Rattle.mm_bson.specs.Named.{named}
use Rattle.mm_bson.proofs.Numbered.{named_again}
use Rattle.mm_bson.proofs.Walks.{is_long, fields_are, fields_held}
use Rattle.mm_bson.proofs.place.ListRef.named.Goals as goal

pub body_of-requires : goal.body_of-requires
body_of-requires c = is_long _ _ c.self.invariant.document

pub invariant_of-result : goal.invariant_of-result
invariant_of-result c = fields_held _ _ _ c.body_of.ensures c.self.invariant.document

pub returns : goal.returns
returns c = fields_are _ _ c.body_of.ensures ∙ sym (named_again 0 _ c.self.invariant.numbered) ∙ ap (named 0) c.self.view_is
