use Rattle.std.proofs.Common.{◌≡◌, suc, List, [], ◌∷◌, length, refl, ap, sym, ◌∙◌}
use Rattle.std.proofs.lemmas.Bool.{false≢true}
use Rattle.shadow_node.specs.Falls.{Shared, forest_at}
use Rattle.tree_revision.specs.Unchanged.{top_tags}
use Rattle.tree_revision.proofs.stamping.have_same_tags.Goals as goal

-- there are as many tags as nodes
as_many : (nodes : List Shared) → length (top_tags (forest_at nodes)) ≡ length nodes
as_many [] = refl
as_many (first ∷ nodes) = ap suc (as_many nodes)

pub returns-then-olds-news : goal.returns-then-olds-news
returns-then-olds-news c =
    let olds = c.nodes-olds.result.now in
    let news = c.nodes-news.result.now in (
      λ no. absurd (false≢true no),
      λ same. absurd (c.if-olds-news.true
          (sym (as_many olds) ∙ ap (λ forest. length (top_tags forest)) c.nodes-olds.ensures ∙ ap length same ∙ sym (ap (λ forest. length (top_tags forest)) c.nodes-news.ensures) ∙ as_many news)),
    )
