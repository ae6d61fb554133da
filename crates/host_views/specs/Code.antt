-- Codes of the plain values of views, by which a proof tells them apart.
use Rattle.std.specs.Prelude.{ℕ, List, Option, refl}
use Rattle.std.specs.Coded.{Coded, code_by, coded×, coded_ℕ, coded_list, coded_option}
use Rattle.std.specs.Ordering.{nat_cmp}
use Rattle.std.specs.FinMap.{FinMap}
use Rattle.std.specs.FinMap as table
use Rattle.host_views.specs.declared.HostView.{HostView}
use Rattle.host_views.specs.contracts.HostView as view
use Rattle.host_views.specs.Registry.{ShownView, PlainRegistry}
use Rattle.host_views.specs.Links.{PlainLinkedView, PlainLinks}

-- a shown view as its parts
abbrev pub coded_shown : Coded ShownView
coded_shown = code_by (HostView × List ℕ) (coded× (view.the_row).coded (coded_list coded_ℕ)) (λ s. (s.view, s.children)) (λ p. record { view = p.0; children = p.1 }) (λ _. refl)

-- a registry as its parts
abbrev pub coded_registry : Coded PlainRegistry
coded_registry = code_by (List ℕ × FinMap nat_cmp ShownView) (coded× (coded_list coded_ℕ) (table.code coded_ℕ coded_shown))
    (λ r. (r.root, r.views)) (λ p. record { root = p.0; views = p.1 }) (λ _. refl)

-- a view with its links as its parts
abbrev pub coded_linked : Coded PlainLinkedView
coded_linked = code_by (HostView × (Option ℕ × List ℕ)) (coded× (view.the_row).coded (coded× (coded_option coded_ℕ) (coded_list coded_ℕ)))
    (λ l. (l.view, (l.parent, l.children))) (λ p. record { view = p.0; parent = p.1.0; children = p.1.1 }) (λ _. refl)

-- links as their parts
abbrev pub coded_links : Coded PlainLinks
coded_links = code_by (List ℕ × FinMap nat_cmp PlainLinkedView) (coded× (coded_list coded_ℕ) (table.code coded_ℕ coded_linked))
    (λ l. (l.root, l.views)) (λ p. record { root = p.0; views = p.1 }) (λ _. refl)
