use Rattle.std.proofs.Common.{◌≡◌, ◌≤◌, Some, IsUtf8, ap, ◌∙◌}
use Rattle.std.proofs.lemmas.Str.{is_utf8-from_IsUtf8}
use Rattle.std.proofs.lemmas.Result.{IfOk-weaker}
use Rattle.serde_json.specs.Data.{depth}
use Rattle.serde_json.specs.Read.{read}
use Rattle.serde_json.specs.View.{view}
use Rattle.script_read.specs.Plain.{plain_script}
use Rattle.script_read.specs.Writing.{json_of}
use Rattle.script_read.proofs.NoFloats.{no_float}
use Rattle.script_read.proofs.ReadsBack.{reads_back, both_ok}
use Rattle.script_read.proofs.writing.write_script.Goals as goal

pub returns-clause-text : goal.returns-clause-text
returns-clause-text c =
    let json : view c.in_ok-value.value ≡ json_of (plain_script c.args.script.now) = c.in_ok-value.ensures.json in
    IfOk-weaker c.to_vec.result _ _ (λ text same. same (no_float (plain_script c.args.script.now))) (rw json at c.to_vec.ensures.text)

pub returns-clause-reads_back : goal.returns-clause-reads_back
returns-clause-reads_back c =
    let json : view c.in_ok-value.value ≡ json_of (plain_script c.args.script.now) = c.in_ok-value.ensures.json in
    both_ok c.to_vec.result (λ text. IsUtf8 text.items) (λ text. depth (view c.in_ok-value.value) ≤ 127 → read text.items ≡ Some (view c.in_ok-value.value)) _
    c.to_vec.ensures.utf8 c.to_vec.ensures.reads_back
    (λ text utf8 reads short shallow.
    reads_back (plain_script c.args.script.now) text.items c.requires c.in_ok-value.ensures.fits (is_utf8-from_IsUtf8 text.items utf8) short
    (reads (rw json shallow) ∙ ap Some json))
