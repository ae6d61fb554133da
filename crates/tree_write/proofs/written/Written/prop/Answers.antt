use Rattle.std.proofs.Common.{rules, ◌≡◌, List, ℤ, true, false, refl, sym, ◌∙◌, subst, to_z, of_z, to_z-of_z, w64}
use Rattle.std.specs.Prelude.{Some}
use Rattle.prop_table.specs.Table.{IsInRow, RowRule, v2_rules}
use Rattle.prop_table.specs.Rules.{row_named, rule_at}
use Rattle.tree_write.proofs.written.Written.prop.Goals as goal

pub returns-in_default : goal.returns-in_default
returns-in_default c =
    let found : c.find.result ≡ row_named v2_rules c.args.name.now = c.find.ensures.value ∙ (λ j. row_named (c.node_table-table.ensures j) (c.as_bytes.ensures.value j)) in
    sym found ∙ c.in_default.is

pub returns-in_default-set : goal.returns-in_default-set
returns-in_default-set c =
    let found : c.find.result ≡ row_named v2_rules c.args.name.now = c.find.ensures.value ∙ (λ j. row_named (c.node_table-table.ensures j) (c.as_bytes.ensures.value j)) in
    let again : to_z w64 (of_z w64 c.args.value) ≡ c.args.value = to_z-of_z c.ranges.value in
    record {
      row = c.in-Some.row;
      named = sym found ∙ c.in-Some.is;
      out = λ in_row.
          let here : IsInRow (rule_at v2_rules c.in-Some.row) (Some (to_z w64 (of_z w64 c.args.value))) =
          subst (λ (v : ℤ). IsInRow (rule_at v2_rules c.in-Some.row) (Some v)) (sym again) in_row in
          let no : false ≡ true = c.in_default-set.ensures.in_row.1
          (subst (λ (rows : List RowRule). IsInRow (rule_at rows c.in-Some.row) (Some (to_z w64 (of_z w64 c.args.value)))) (sym c.node_table-table.ensures) here) in
          cc;
    }

pub returns : goal.returns
returns c =
    let found : c.find.result ≡ row_named v2_rules c.args.name.now = c.find.ensures.value ∙ (λ j. row_named (c.node_table-table.ensures j) (c.as_bytes.ensures.value j)) in
    let again : to_z w64 (of_z w64 c.args.value) ≡ c.args.value = to_z-of_z c.ranges.value in
    record {
      row = c.in-Some.row;
      named = sym found ∙ c.in-Some.is;
      in_row = subst (λ (v : ℤ). IsInRow (rule_at v2_rules c.in-Some.row) (Some v)) again
          (subst (λ (rows : List RowRule). IsInRow (rule_at rows c.in-Some.row) (Some (to_z w64 (of_z w64 c.args.value)))) c.node_table-table.ensures (c.in-Ok.ensures.in_row.0 refl));
      node = search rules;
    }
