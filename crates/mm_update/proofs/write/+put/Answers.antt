use Rattle.std.proofs.Common.{◌≡◌, ◌++◌, ◌∷◌, [], ◌^◌, suc, length, refl, sym, ap, subst, ◌∙◌, append_assoc, length-append, drop, ◌+◌, arith}
use Rattle.std.specs.Prelude.{OnOk}
use Rattle.std.specs.Str.{is_utf8}
use Rattle.std.proofs.lemmas.Str.{is_utf8-from_IsUtf8}
use Rattle.std.proofs.lemmas.Result.{on_ok_weaker}
use Rattle.mm_bson.specs.Tree.{no_elements, depth, tree_depth}
use Rattle.mm_bson.specs.Spelling.{spelling, array_spelling, value_spelling, elements_spelling, AreElements}
use Rattle.mm_bson.proofs.Building.{spelling_len}
use Rattle.mm_update.specs.Drafted.{values_at, node_tree, drafted, entry_on, one_entry, AreNames}
use Rattle.mm_update.proofs.Listed.{first_entry_is}
use Rattle.mm_update.proofs.Entries.{spelling_first, depth_first, names_first, sound_first}
use Rattle.mm_update.proofs.Frames.{ended, ended_room, ended_short, framed_put}
use Rattle.mm_update.proofs.write.+put.Goals as goal

pub put_draft-put_entries-requires : goal.put_draft-put_entries-requires
put_draft-put_entries-requires t c =
    let same : drafted c.entries.result.now ≡ c.args.draft.now = c.entries.ensures.entries in
    let deep : depth (drafted c.entries.result.now) ≡ depth c.args.draft.now = ap depth same in
    (omega (arith, c.decreases, deep), (subst AreNames (sym same) c.entries.ensures.names, rw same (omega (arith, c.requires, spelling_len c.args.draft.now))))

pub put_draft-seal-requires-clause-room : goal.put_draft-seal-requires-clause-room
put_draft-seal-requires-clause-room t c =
    let inner = elements_spelling c.args.draft.now in
    let put = c.in_ok-put_entries.ensures.items ∙ ap (λ es. c.put.new.out.items ++ elements_spelling es) c.entries.ensures.entries in
    let is = ended c.args.out.now.items (0 ∷ 0 ∷ 0 ∷ 0 ∷ []) inner c.put.new.out.items c.put_entries.new.out.items c.put-2.new.out.items c.in_ok-put.ensures put c.in_ok-put-2.ensures in
    ended_room c.args.out.now.items (0 ∷ 0 ∷ 0 ∷ 0 ∷ []) inner c.put-2.new.out.items c.filled-start.result is refl c.filled-start.ensures

pub put_draft-seal-requires-clause-short : goal.put_draft-seal-requires-clause-short
put_draft-seal-requires-clause-short t c =
    let inner = elements_spelling c.args.draft.now in
    let put = c.in_ok-put_entries.ensures.items ∙ ap (λ es. c.put.new.out.items ++ elements_spelling es) c.entries.ensures.entries in
    let is = ended c.args.out.now.items (0 ∷ 0 ∷ 0 ∷ 0 ∷ []) inner c.put.new.out.items c.put_entries.new.out.items c.put-2.new.out.items c.in_ok-put.ensures put c.in_ok-put-2.ensures in
    ended_short c.args.out.now.items (0 ∷ 0 ∷ 0 ∷ 0 ∷ []) inner c.put-2.new.out.items c.filled-start.result (2 ^ 31) is refl c.filled-start.ensures (omega (arith, c.requires, spelling_len c.args.draft.now))

pub put_draft-returns-clause-items : goal.put_draft-returns-clause-items
unfolding spelling
put_draft-returns-clause-items t c =
    let inner = elements_spelling c.args.draft.now in
    let put = c.in_ok-put_entries.ensures.items ∙ ap (λ es. c.put.new.out.items ++ elements_spelling es) c.entries.ensures.entries in
    let is = ended c.args.out.now.items (0 ∷ 0 ∷ 0 ∷ 0 ∷ []) inner c.put.new.out.items c.put_entries.new.out.items c.put-2.new.out.items c.in_ok-put.ensures put c.in_ok-put-2.ensures in
    c.seal.ensures ∙ framed_put c.args.out.now.items (0 ∷ 0 ∷ 0 ∷ 0 ∷ []) inner c.put-2.new.out.items c.filled-start.result is refl c.filled-start.ensures

pub put_node-put_draft-requires : goal.put_node-put_draft-requires
unfolding spelling
put_node-put_draft-requires t c =
    let deep : tree_depth (node_tree c.args.node.now) ≡ suc (depth c.in-Document.draft) = ap (λ n. tree_depth (node_tree n)) c.in-Document.is in
    let long : length (value_spelling (node_tree c.args.node.now)) ≡ length (spelling c.in-Document.draft) = ap (λ n. length (value_spelling (node_tree n))) c.in-Document.is in
    (omega (arith, c.decreases, deep), omega (arith, c.requires, long))

pub put_node-put_array-requires : goal.put_node-put_array-requires
unfolding array_spelling
put_node-put_array-requires t c =
    let long : length (value_spelling (node_tree c.args.node.now)) ≡ length (array_spelling (values_at c.in-Array.values.items)) = ap (λ n. length (value_spelling (node_tree n))) c.in-Array.is in
    rw c.as_slice.ensures.value (omega (arith, c.requires, long))

pub put_node-returns-in-Document-clause-items : goal.put_node-returns-in-Document-clause-items
unfolding spelling
put_node-returns-in-Document-clause-items t c =
    subst (λ n. OnOk c.put_draft.result (c.put_draft.new.out.items ≡ c.args.out.now.items ++ value_spelling (node_tree n))) (sym c.in-Document.is) c.put_draft.ensures.items

pub put_node-returns-in-Array-clause-items : goal.put_node-returns-in-Array-clause-items
unfolding array_spelling
put_node-returns-in-Array-clause-items t c =
    subst (λ n. OnOk c.put_array.result (c.put_array.new.out.items ≡ c.args.out.now.items ++ value_spelling (node_tree n))) (sym c.in-Array.is)
    (subst (λ vs. OnOk c.put_array.result (c.put_array.new.out.items ≡ c.args.out.now.items ++ array_spelling (values_at vs))) c.as_slice.ensures.value c.put_array.ensures.items)

pub put_entries-put_entry-requires : goal.put_entries-put_entry-requires
put_entries-put_entry-requires t c =
    let first = c.entry-item.result in
    let es = drafted (drop (c.entries.entry-index + 1) c.args.entries.now) in
    let split = first_entry_is first c.args.entries.now c.entries.entry-index c.entries-test.true c.entry-item.is in
    let one = elements_spelling (one_entry first) in
    let spelled = ap (λ ds. length (elements_spelling ds)) split ∙ ap length (spelling_first first.name.now first.node es) ∙ length-append one (elements_spelling es) in
    let deep = ap depth split ∙ depth_first first.name.now first.node es in
    (omega (arith, c.decreases, c.entries.invariant.shallow, deep), ((names_first first.name.now first.node es (subst AreNames split c.entries.invariant.names)).0, omega (arith, c.entries.invariant.short, spelled)))

pub put_entries-entries-preserved : goal.put_entries-entries-preserved
put_entries-entries-preserved t c =
    let first = c.entry-item.result in
    let es = drafted (drop (c.entries.entry-index + 1) c.args.entries.now) in
    let split = first_entry_is first c.args.entries.now c.entries.entry-index c.entries-test.true c.entry-item.is in
    let one = elements_spelling (one_entry first) in
    let spell = ap elements_spelling split ∙ spelling_first first.name.now first.node es in
    let spelled = ap length spell ∙ length-append one (elements_spelling es) in
    let deep = ap depth split ∙ depth_first first.name.now first.node es in
    record {
      items = ap (λ x. x ++ elements_spelling es) c.in_ok-put_entry.ensures.items ∙ append_assoc c.entries.out.items one (elements_spelling es) ∙ ap (λ x. c.entries.out.items ++ x) (sym spell) ∙ c.entries.invariant.items;
      sound = λ h. c.entries.invariant.sound (subst AreElements (sym split) (sound_first first.name.now first.node es c.in_ok-put_entry.ensures.sound h));
      names = (names_first first.name.now first.node es (subst AreNames split c.entries.invariant.names)).1;
      short = omega (arith, c.entries.invariant.short, spelled);
      shallow = omega (arith, c.entries.invariant.shallow, deep);
    }

pub put_entry-returns-in_ok-put_head-in-Some-clause-sound : goal.put_entry-returns-in_ok-put_head-in-Some-clause-sound
put_entry-returns-in_ok-put_head-in-Some-clause-sound t c =
    let zeros = subst (λ o. AreNames (entry_on c.args.entry.now.name.now o no_elements)) c.in-Some.is c.requires.name in
    let utf8 = ap is_utf8 (sym c.as_bytes.ensures.value) ∙ is_utf8-from_IsUtf8 c.as_bytes.result.now c.as_bytes.ensures.utf8 in
    on_ok_weaker c.put_node.result (λ sound. subst (λ o. AreElements (entry_on c.args.entry.now.name.now o no_elements)) (sym c.in-Some.is) ((utf8, zeros.0), sound, tt)) c.put_node.ensures.sound
