use Rattle.std.proofs.Common.{◌≡◌, ◌∙◌, sym, ap, subst, map, inl, inr, true, false}
use Rattle.std.specs.Prelude.{string_bytes}
use Rattle.clap.specs.Faults.{fault_of, is_simple_and_free}
use Rattle.clap.specs.Kinds.{IsAmong}
use Rattle.clap.specs.Values.{kind_of}
use Rattle.clap.specs.Simple.{App, is_simple, matches_of}
use Rattle.fabric_run.specs.Steps.{HasReadableNumber}
use Rattle.fabric_run.specs.Words.{command_found}
use Rattle.fabric_run.proofs.NamedCommands.{command_taken, is_free_too, is_simple_app, none_named, number_taken}
use Rattle.fabric_run.proofs.words.command_named.Goals as goal

pub command_found-requires : goal.command_found-requires
command_found-requires c =
    let line = c.in_ok-command_line.ensures in
    let words = map string_bytes c.args.words.now in
    let rows = (c.in-Ok.ensures.matches (ap is_simple line.app ∙ is_simple_app line.names line.are)).0 in
    let none = c.in-Ok.ensures.kinds (ap is_simple_and_free line.app ∙ is_free_too line.names line.are) in
    subst HasReadableNumber (sym (rows ∙ ap (λ (a : App). matches_of a words) line.app))
    (number_taken line.names line.are words (ap (λ (a : App). fault_of a words) (sym line.app) ∙ none))

pub returns-in-Ok : goal.returns-in-Ok
returns-in-Ok c =
    let line = c.in_ok-command_line.ensures in
    let words = map string_bytes c.args.words.now in
    let rows = (c.in-Ok.ensures.matches (ap is_simple line.app ∙ is_simple_app line.names line.are)).0 in
    let none = c.in-Ok.ensures.kinds (ap is_simple_and_free line.app ∙ is_free_too line.names line.are) in
    c.command_found.ensures ∙ ap command_found (rows ∙ ap (λ (a : App). matches_of a words) line.app)
    ∙ command_taken line.names line.are words (ap (λ (a : App). fault_of a words) (sym line.app) ∙ none)

pub returns-in-Err-2 : goal.returns-in-Err-2
returns-in-Err-2 c =
    let line = c.in_ok-command_line.ensures in
    let words = map string_bytes c.args.words.now in
    elim (c.in-Err.ensures.kinds (ap is_simple_and_free line.app ∙ is_free_too line.names line.are)) [
      | inl memory ↦
          let same = rw (c.kind.ensures, memory) at c.eq.ensures in
          let bad : false ≡ true = sym c.if-eq.false ∙ same in
          cc
      | inr among ↦ none_named line.names line.are words (kind_of c.in-Err.error) (subst (λ (a : App). IsAmong (kind_of c.in-Err.error) (fault_of a words)) line.app among)
    ]
