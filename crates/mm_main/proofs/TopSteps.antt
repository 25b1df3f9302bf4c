-- What playing promises, from what it came to.
use Rattle.std.proofs.Common.{◌≡◌, ℕ, ◌+◌, List, [], ◌∷◌, take, string_bytes, ap, ◌∙◌, inl, inr, refl, Option, Some, None, subst, false, is_some}
use Rattle.std.specs.FinMap.{get, keys, contains_key-keys}
use Rattle.std.specs.Ordering.{eq_by_cmp}
use Rattle.std.specs.List.{list_any}
use Rattle.mm_outside.specs.Image.{name_cmp, Image}
use Rattle.mm_outside.specs.Told.{Told, IfTold, image_of}
use Rattle.mm_outside.specs.Crash.{Runs}
use Rattle.mm_outside.specs.Ask.{asked, new_file_asks}
use Rattle.mm_outside.proofs.Cuts.{cut_all}
use Rattle.mm_outside.proofs.NewFile.{place_of_file_written, place_of_other_file}
use Rattle.mm_bson.specs.Tree.{Elements}
use Rattle.mm_script.specs.declared.fault.LineWhat.{LineWhat}
use Rattle.mm_script.specs.Script.{most_bytes}
use Rattle.mm_main.specs.declared.play.End.{End}
use Rattle.mm_main.specs.declared.play.End.TheVariants.{Refused, Present, Played, SourceFailed, DiskFailed, NoMemory}
use Rattle.mm_main.specs.declared.status.Status.TheVariants as status
use Rattle.mm_main.specs.Ends.{IfComing, PlayEnds, IsUnasked, end_text, end_status}
use Rattle.mm_main.specs.Contents.{full_name, doc_lines}
use Rattle.mm_main.specs.Dumps.{IsAlone, IsTheDump}
use Rattle.mm_main.specs.FirstFile.{IsFirstFile}
use Rattle.mm_main.specs.Inserts.{collection_in, docs_of}
use Rattle.mm_main.specs.Room.{stored}
use Rattle.mm_main.specs.Script.{IsAnyPlayed, Refuses}
use Rattle.mm_main.specs.Stored.{HasStored, Stores, MayHaveBegun, file_name}
use Rattle.mm_main.specs.Streams.{Says, SaysSome}
use Rattle.mm_main.specs.Texts.{refusal_text, present_text}
use Rattle.mm_main.specs.Top.{IsAmong, HasPlayed, Plays, SaysFault, OnlyAdds}
use Rattle.mm_main.proofs.OneDump.{the_dump}
use Rattle.mm_main.proofs.RunSteps.{begun_none}
use Rattle.mm_main.proofs.StatusSteps.{none_of_two, none_of}

-- ---- what is stored

none_by : (o : Option (List ℕ)) → is_some o ≡ false → o ≡ None
none_by None h = refl
none_by (Some x) h = cc

no_file : (image : Image) (name : List ℕ) → keys image ≡ [] → get image name ≡ None
no_file image name none = none_by (get image name) (contains_key-keys image name ∙ ap (list_any (eq_by_cmp name_cmp name)) none)

has_stored : (collection : List ℕ) (docs : List Elements) (old new : Option Told) → Stores collection docs old new → IfTold old (λ t. keys (image_of t) ≡ []) → Runs old new (λ t u. HasStored collection docs u)
has_stored collection docs old new s empty = λ t is. (
  asked (new_file_asks file_name s.file) t,
  s.made t is,
  record {
    file = s.file;
    holds = s.holds;
    live = s.live;
    synced = place_of_file_written t file_name s.file (no_file (image_of t) file_name (empty t is));
    alone = λ name other. ap (λ p. p.file) (place_of_other_file t file_name s.file name other) ∙ no_file (image_of t) name (empty t is);
  },
)

dump_of_stored : (collection : List ℕ) (docs : List Elements) (u : Told) → HasStored collection docs u → IsTheDump (image_of u) status.Done (doc_lines (full_name collection) (stored docs))
dump_of_stored collection docs u s =
    let alone : IsAlone s.file (image_of u) = record { there = ap (λ p. p.file) s.synced; alone = s.alone } in
    the_dump _ _ _ (inr (inr (s.file, alone, (collection, stored docs, s.holds, refl))))

begun_stores : (collection : List ℕ) (docs : List Elements) (old new : Option Told) → Stores collection docs old new → MayHaveBegun old new
begun_stores collection docs old new s = record { file = s.file; some = λ t is. (asked (new_file_asks file_name s.file) t, s.made t is, cut_all (new_file_asks file_name s.file) t) }

-- ---- each clause

says_as : (text same : List ℕ) (before after : Option (List ℕ)) → text ≡ same → Says text before after → Says same before after
says_as text same before after is said = subst (λ (bytes : List ℕ). Says bytes before after) is said

played_by : (coming : Option (List ℕ)) (old new : Option Told) (before after : Option (List ℕ)) (end : End) → PlayEnds coming old new end → Says (end_text end) before after
    → end_status end ≡ status.Done → HasPlayed coming old new before after
played_by coming old new before after (Refused line what text) ends said done = absurd cc
played_by coming old new before after (Present name text) ends said done = absurd cc
played_by coming old new before after (Played text) ends said done = record {
  actions = ends.0;
  script = ends.1;
  empty = ends.2.1;
  stored = has_stored (collection_in ends.0) (docs_of ends.0) old new ends.2.2 ends.2.1;
  dumps = λ t is.
      let after = has_stored (collection_in ends.0) (docs_of ends.0) old new ends.2.2 ends.2.1 t is in
      (after.0, after.1, dump_of_stored (collection_in ends.0) (docs_of ends.0) after.0 after.2);
  said = says_as _ _ before after ends.2.0 said;
}
played_by coming old new before after SourceFailed ends said done = absurd cc
played_by coming old new before after DiskFailed ends said done = absurd cc
played_by coming old new before after NoMemory ends said done = absurd cc

refused_by : (coming : Option (List ℕ)) (old new : Option Told) (before after : Option (List ℕ)) (end : End) → PlayEnds coming old new end → Says (end_text end) before after
    → end_status end ≡ status.ScriptRefused → (line : ℕ) × (what : LineWhat) × IfComing coming (Refuses line what) × Says (refusal_text line what) before after
refused_by coming old new before after (Refused line what text) ends said done = (line, what, ends.2, says_as _ _ before after ends.0 said)
refused_by coming old new before after (Present name text) ends said done = absurd cc
refused_by coming old new before after (Played text) ends said done = absurd cc
refused_by coming old new before after SourceFailed ends said done = absurd cc
refused_by coming old new before after DiskFailed ends said done = absurd cc
refused_by coming old new before after NoMemory ends said done = absurd cc

refused_exactly_by : (coming : Option (List ℕ)) (old new : Option Told) (end : End) → PlayEnds coming old new end → (bytes : List ℕ) → coming ≡ Some bytes
    → (IsAnyPlayed (take (most_bytes + 1) bytes) → ⊥) → IsAmong (end_status end) (status.ScriptRefused ∷ status.SourceFault ∷ status.SinkFault ∷ status.NoMemory ∷ [])
refused_exactly_by coming old new (Refused line what text) ends bytes is none = inl refl
refused_exactly_by coming old new (Present name text) ends bytes is none = absurd (none (ends.0, ends.1 bytes is))
refused_exactly_by coming old new (Played text) ends bytes is none = absurd (none (ends.0, ends.1 bytes is))
refused_exactly_by coming old new SourceFailed ends bytes is none = inr (inl refl)
refused_exactly_by coming old new DiskFailed ends bytes is none = absurd (none (ends.0, ends.1 bytes is))
refused_exactly_by coming old new NoMemory ends bytes is none = inr (inr (inr (inl refl)))

present_exactly_by : (coming : Option (List ℕ)) (old new : Option Told) (end : End) → PlayEnds coming old new end → (bytes : List ℕ) (t : Told) (name : List ℕ) → coming ≡ Some bytes
    → IsAnyPlayed (take (most_bytes + 1) bytes) → old ≡ Some t → IsFirstFile (Some name) (keys (image_of t))
    → IsAmong (end_status end) (status.FilesRefused ∷ status.DiskFault ∷ status.SourceFault ∷ status.SinkFault ∷ status.NoMemory ∷ [])
present_exactly_by coming old new (Refused line what text) ends bytes t name is any told first = absurd ((ends.2 bytes is).none any)
present_exactly_by coming old new (Present one text) ends bytes t name is any told first = inl refl
present_exactly_by coming old new (Played text) ends bytes t name is any told first = absurd (cc (ends.2.1 t told, first.1))
present_exactly_by coming old new SourceFailed ends bytes t name is any told first = inr (inr (inl refl))
present_exactly_by coming old new DiskFailed ends bytes t name is any told first = inr (inl refl)
present_exactly_by coming old new NoMemory ends bytes t name is any told first = inr (inr (inr (inr (inl refl))))

complete_by : (coming : Option (List ℕ)) (old new : Option Told) (end : End) → PlayEnds coming old new end → (bytes : List ℕ) (t : Told) → coming ≡ Some bytes
    → IsAnyPlayed (take (most_bytes + 1) bytes) → old ≡ Some t → keys (image_of t) ≡ []
    → IsAmong (end_status end) (status.Done ∷ status.DiskFault ∷ status.SourceFault ∷ status.SinkFault ∷ status.NoMemory ∷ [])
complete_by coming old new (Refused line what text) ends bytes t is any told none = absurd ((ends.2 bytes is).none any)
complete_by coming old new (Present one text) ends bytes t is any told none = absurd (cc (none, (ends.2.2 t told).1))
complete_by coming old new (Played text) ends bytes t is any told none = inl refl
complete_by coming old new SourceFailed ends bytes t is any told none = inr (inr (inl refl))
complete_by coming old new DiskFailed ends bytes t is any told none = inr (inl refl)
complete_by coming old new NoMemory ends bytes t is any told none = inr (inr (inr (inr (inl refl))))

among_by : (end : End) → IsAmong (end_status end) (status.Done ∷ status.ScriptRefused ∷ status.DiskFault ∷ status.SourceFault ∷ status.SinkFault ∷ status.NoMemory ∷ status.FilesRefused ∷ [])
among_by (Refused line what text) = inr (inl refl)
among_by (Present name text) = inr (inr (inr (inr (inr (inr (inl refl))))))
among_by (Played text) = inl refl
among_by SourceFailed = inr (inr (inr (inl refl)))
among_by DiskFailed = inr (inr (inl refl))
among_by NoMemory = inr (inr (inr (inr (inr (inl refl)))))

begun_by : (coming : Option (List ℕ)) (old new : Option Told) (end : End) → PlayEnds coming old new end → MayHaveBegun old new
begun_by coming old new (Refused line what text) ends = begun_none old new ends.1
begun_by coming old new (Present name text) ends = begun_none old new ends.2.1
begun_by coming old new (Played text) ends = begun_stores (collection_in ends.0) (docs_of ends.0) old new ends.2.2
begun_by coming old new SourceFailed ends = begun_none old new ends
begun_by coming old new DiskFailed ends = ends.2
begun_by coming old new NoMemory ends = ends

present_by : (coming : Option (List ℕ)) (old new : Option Told) (before after : Option (List ℕ)) (end : End) → PlayEnds coming old new end → Says (end_text end) before after
    → end_status end ≡ status.FilesRefused → IfComing coming IsAnyPlayed × (name : List ℕ) × IfTold old (λ t. IsFirstFile (Some name) (keys (image_of t))) × Says (present_text name) before after
present_by coming old new before after (Refused line what text) ends said is = absurd cc
present_by coming old new before after (Present name text) ends said is = ((λ bytes tells. (ends.0, ends.1 bytes tells)), string_bytes name, ends.2.2, says_as _ _ before after ends.2.0 said)
present_by coming old new before after (Played text) ends said is = absurd cc
present_by coming old new before after SourceFailed ends said is = absurd cc
present_by coming old new before after DiskFailed ends said is = absurd cc
present_by coming old new before after NoMemory ends said is = absurd cc

fault_by : (before after : Option (List ℕ)) (end : End) → Says (end_text end) before after → SaysFault (end_status end) before after
fault_by before after (Refused line what text) said = tt
fault_by before after (Present name text) said = tt
fault_by before after (Played text) said = tt
fault_by before after SourceFailed said = said
fault_by before after DiskFailed said = said
fault_by before after NoMemory said = said

kept_by : (coming : Option (List ℕ)) (old new : Option Told) (end : End) → PlayEnds coming old new end → IsAmong (end_status end) (status.ScriptRefused ∷ status.SourceFault ∷ status.FilesRefused ∷ []) → new ≡ old
kept_by coming old new (Refused line what text) ends among = ends.1
kept_by coming old new (Present name text) ends among = ends.2.1
kept_by coming old new (Played text) ends among = absurd (none_of status.Done status.ScriptRefused status.SourceFault status.FilesRefused (λ e. cc) (λ e. cc) (λ e. cc) among)
kept_by coming old new SourceFailed ends among = ends
kept_by coming old new DiskFailed ends among = absurd (none_of status.DiskFault status.ScriptRefused status.SourceFault status.FilesRefused (λ e. cc) (λ e. cc) (λ e. cc) among)
kept_by coming old new NoMemory ends among = absurd (none_of status.NoMemory status.ScriptRefused status.SourceFault status.FilesRefused (λ e. cc) (λ e. cc) (λ e. cc) among)

-- what playing came to was said
pub plays_said : (coming : Option (List ℕ)) (old new : Option Told) (before after : Option (List ℕ)) (end : End) → PlayEnds coming old new end → Says (end_text end) before after
    → Plays (end_status end) coming old new before after
plays_said coming old new before after end ends said = record {
  among = among_by end;
  played = played_by coming old new before after end ends said;
  refused = refused_by coming old new before after end ends said;
  refused_exactly = refused_exactly_by coming old new end ends;
  present = present_by coming old new before after end ends said;
  present_exactly = present_exactly_by coming old new end ends;
  complete = complete_by coming old new end ends;
  fault = fault_by before after end said;
  kept = kept_by coming old new end ends;
  begun = begun_by coming old new end ends;
}

-- it could not be said
pub plays_unsaid : (coming : Option (List ℕ)) (old new : Option Told) (before after : Option (List ℕ)) (end : End) → PlayEnds coming old new end → Plays status.SinkFault coming old new before after
plays_unsaid coming old new before after end ends = record {
  among = inr (inr (inr (inr (inl refl))));
  played = λ is. absurd cc;
  refused = λ is. absurd cc;
  refused_exactly = λ bytes tells none. inr (inr (inl refl));
  present = λ is. absurd cc;
  present_exactly = λ bytes t name tells any told first. inr (inr (inr (inl refl)));
  complete = λ bytes t tells any told none. inr (inr (inr (inl refl)));
  fault = tt;
  kept = λ among. absurd (none_of status.SinkFault status.ScriptRefused status.SourceFault status.FilesRefused (λ e. cc) (λ e. cc) (λ e. cc) among);
  begun = begun_by coming old new end ends;
}

pub unasked_by : {D : Type 0} (end : End) (old new : D) → IsUnasked end old new → IsAmong (end_status end) (status.ScriptRefused ∷ status.SourceFault ∷ []) → new ≡ old
unasked_by (Refused line what text) old new unasked among = unasked
unasked_by (Present name text) old new unasked among = absurd (none_of_two status.FilesRefused status.ScriptRefused status.SourceFault (λ e. cc) (λ e. cc) among)
unasked_by (Played text) old new unasked among = absurd (none_of_two status.Done status.ScriptRefused status.SourceFault (λ e. cc) (λ e. cc) among)
unasked_by SourceFailed old new unasked among = unasked
unasked_by DiskFailed old new unasked among = absurd (none_of_two status.DiskFault status.ScriptRefused status.SourceFault (λ e. cc) (λ e. cc) among)
unasked_by NoMemory old new unasked among = absurd (none_of_two status.NoMemory status.ScriptRefused status.SourceFault (λ e. cc) (λ e. cc) among)

pub unsaid_asks : {D : Type 0} (old new : D) → IsAmong status.SinkFault (status.ScriptRefused ∷ status.SourceFault ∷ []) → new ≡ old
unsaid_asks old new among = absurd (none_of_two status.SinkFault status.ScriptRefused status.SourceFault (λ e. cc) (λ e. cc) among)

pub adds_by : (text : List ℕ) (before after : Option (List ℕ)) → SaysSome text before after → OnlyAdds before after
adds_by text before after said = λ taken is. (take (said taken is).0 text, (said taken is).1)
