-- The calls of functions, function by function, and the key that nothing speaks against.
use Rattle.std.proofs.Common.{◌≡◌, ℕ, ◌+◌, Bool, true, false, List, [], ◌∷◌, ◌++◌, map, Option, Some, None, refl, ap, ap₂, sym, ◌∙◌, append_assoc, append-nil, add-one}
use Rattle.std.specs.Prelude.{if◌then◌else◌, not}
use Rattle.std.proofs.lemmas.Bool.{and_parts}
use Rattle.cv_pool.specs.KindTree.{KindTree}
use Rattle.cv_syntax_trees.specs.declared.head.Head.{Head}
use Rattle.cv_syntax_trees.specs.Tree.{Tree, Empty, Node, second}
use Rattle.cv_meaning.specs.contexts.Groups.{Left, side_tree}
use Rattle.cv_syntax_trees.specs.sites.Sites as directory
use Rattle.cv_syntax_trees.specs.sites.Sites.{SitesView}
use Rattle.cv_scope_rules.specs.Phrases.{Inputs, is_phrase}
use Rattle.cv_scene.specs.Contexts as contexts
use Rattle.cv_scene.specs.Contexts.{matching_of, parameters_of}
use Rattle.cv_scene.specs.Instances.{Matching}
use Rattle.cv_scene.specs.Refusals.{Refusal, NotOneSite, first_refusal, has_key, is_of_type, new_of}
use Rattle.cv_scene.specs.Scenes.{Scene, is_queried}
use Rattle.cv_scene.specs.Sites.{Site, sites_of}
use Rattle.cv_match_terms.specs.patterns.Sites.{site_in}
use Rattle.cv_match_terms.specs.declared.patterns.site.Site.{Site as Found}
use Rattle.cv_context.specs.products.Shapes.{Shape, calls_from, keys_by, name_of, shape_of}
use Rattle.cv_context.specs.products.ShapesInCode.{IsMatched}

-- functions

module _ (ss : List Site) (k : ℕ) (t : Tree) (done all : List (ℕ × List (List ℕ))) (i : done ++ calls_from ss k t ≡ all) where
  pub calls_end : t ≡ Empty → done ≡ all
  unfolding calls_from
  calls_end e = sym (append-nil done) ∙ (sym (ap (λ u. done ++ calls_from ss k u) e) ∙ i)

  pub calls_more : (h : Head) (f more : Tree) → t ≡ Node h f more → (now : List (ℕ × List (List ℕ))) (name : ℕ) (sites : List (List ℕ)) → now ≡ done ++ (name, sites) ∷ [] → name ≡ name_of f → sites ≡ contexts.calls_of ss k → now ++ calls_from ss (k + 1) more ≡ all
  unfolding calls_from
  calls_more h f more e now name sites g n c =
      ap (λ l. l ++ calls_from ss (k + 1) more) g
      ∙ (append_assoc done ((name, sites) ∷ []) (calls_from ss (k + 1) more)
      ∙ (ap₂ (λ x ps. done ++ (x, ps) ∷ calls_from ss (k + 1) more) n c
      ∙ (ap (λ m. done ++ (name_of f, contexts.calls_of ss k) ∷ calls_from ss m more) (add-one k)
      ∙ (sym (ap (λ u. done ++ calls_from ss k u) e) ∙ i))))

-- the key

has_key_law : (M : Matching) → first_refusal M ≡ None → has_key M ≡ true
has_key_law M e = go (has_key M) _ e
  where
    go : (b : Bool) (o : Option Refusal) → (if b then o else Some NotOneSite) ≡ None → b ≡ true
    go true o h = refl
    go false o h = absurd (cc)

by_type : (T : ℕ) (o : Option (ℕ × List (ℕ × ℕ))) → is_of_type T o ≡ true → (d : ℕ × List (ℕ × ℕ)) × (o ≡ Some d)
by_type T None e = absurd (cc)
by_type T (Some d) e = (d, refl)

-- its parameters are those above its one `new`
pub keys_of : (trees : List KindTree) (view : SitesView) (s : Scene) (e : Tree) (x : ℕ) (ss : List Found) → IsMatched trees view s e x ss → (ns : List ℕ) → ((game : Tree) (d : ℕ × List (ℕ × ℕ)) → is_phrase Inputs game ≡ true → view ≡ directory.sites_of game → new_of game x ≡ Some d → ns ≡ parameters_of d.1) → ns ≡ keys_by (new_of s.game x)
keys_of trees view s e x ss m ns only =
    let M = matching_of s e x in
    let d = by_type M.group.key.1 (new_of s.game x) (and_parts (is_of_type M.group.key.1 (new_of s.game x)) (not (is_queried s x)) (has_key_law M m.refusal)).0 in
    only s.game d.0 m.game m.directory d.1 ∙ sym (ap keys_by d.1)

abbrev made : (key : ℕ) → (keys : List ℕ) → (calls : List (ℕ × List (List ℕ))) → Shape
made x ns ps = record { key = x; keys = ns; calls = ps }

pub same_shape : (s : Scene) (e : Tree) (x : ℕ) (keys : List ℕ) (calls : List (ℕ × List (List ℕ))) → keys ≡ keys_by (new_of s.game x) → calls ≡ calls_from (sites_of (matching_of s e x)) 0 (second (side_tree Left e)) → made x keys calls ≡ shape_of s e x
unfolding shape_of
same_shape s e x keys calls k c = ap₂ (made x) k c

pub same_sites : (trees : List KindTree) (view : SitesView) (s : Scene) (e : Tree) (x : ℕ) (ss : List Found) → IsMatched trees view s e x ss → (t : Tree) → t ≡ second (side_tree Left e) → calls_from (map (site_in trees (matching_of s e x)) ss) 0 t ≡ calls_from (sites_of (matching_of s e x)) 0 (second (side_tree Left e))
same_sites trees view s e x ss m t i = ap₂ (λ cs u. calls_from cs 0 u) m.sites i
