use Rattle.std.proofs.Common.{◌≡◌, ℕ, List, ◌++◌, string_bytes, sym, ◌∙◌, ap, append_assoc}
use Rattle.std.specs.Prelude.{codes}
use Rattle.std.specs.Fmt.{decimal}
use Rattle.std.proofs.lemmas.Result.{IfOk-weaker}
use Rattle.mm_recover.proofs.DiskNames.{name_utf8, ns_name, data_name}
use Rattle.mm_recover.proofs.names.disk_name.Goals as goal

pub returns-then-file-eq-NS_FILE : goal.returns-then-file-eq-NS_FILE
returns-then-file-eq-NS_FILE c =
    let text : string_bytes c.in_ok-text.text ≡ c.args.name.now = c.in_ok-text.ensures.ok (name_utf8 c.args.name.now c.requires) in
    IfOk-weaker c.format.result _ _ (λ t e. e ∙ ap (λ (l : List ℕ). l ++ codes ".ns") text ∙ ns_name c.args.name.now c.args.file c.if-file-eq-NS_FILE.true) c.format.ensures.ok

pub returns : goal.returns
returns c =
    let text : string_bytes c.in_ok-text.text ≡ c.args.name.now = c.in_ok-text.ensures.ok (name_utf8 c.args.name.now c.requires) in
    IfOk-weaker c.format-else-file-eq-NS_FILE.result _ _ (λ t e. e ∙ ap (λ (l : List ℕ). l ++ (codes "." ++ decimal c.args.file)) text ∙ sym (append_assoc c.args.name.now (codes ".") (decimal c.args.file)) ∙ data_name c.args.name.now c.args.file c.if-file-eq-NS_FILE.false) c.format-else-file-eq-NS_FILE.ensures.ok
