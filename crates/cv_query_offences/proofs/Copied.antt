-- The variables that the `let`s of a variable copy.
use Rattle.std.proofs.Common.{◌≡◌, ℕ, Bool, List, [], ◌++◌, append_assoc, Option, Some, None, refl, sym, ap, ◌∙◌}
use Rattle.std.specs.Prelude.{if◌then◌else◌}
use Rattle.std.proofs.lemmas.List.{append-nil}
use Rattle.std.proofs.lemmas.List.Elements.{filter-append}
use Rattle.std.specs.List.{filter}
use Rattle.cv_syntax_trees.specs.declared.head.Head.{Head}
use Rattle.cv_syntax_trees.specs.Tree.{Tree, Empty, Node}
use Rattle.cv_scene.specs.Sights.{variable_of}
use Rattle.cv_query_certificates.specs.Secrets.{is_let_of, put_source, sources}

abbrev copied : ℕ → Head → Tree → Option ℕ
copied x h a = if is_let_of x h then variable_of a else None

sources_node : (x : ℕ) (h : Head) (a b : Tree) → sources x (Node h a b) ≡ put_source (copied x h a) (sources x a ++ sources x b)
unfolding sources
sources_node x h a b = refl

sources_empty : (x : ℕ) → sources x Empty ≡ []
unfolding sources
sources_empty x = refl

put_before : (o : Option ℕ) (ys : List ℕ) → put_source o ys ≡ put_source o [] ++ ys
put_before None ys = refl
put_before (Some y) ys = refl

-- of those that pass a test

pub no_sources : (p : ℕ → Bool) (x : ℕ) (t : Tree) (found : List ℕ) → t ≡ Empty → found ≡ found ++ filter p (sources x t)
no_sources p x t found e = sym (append-nil found) ∙ ap (λ ps. found ++ filter p ps) (sym (ap (sources x) e ∙ sources_empty x))

pub sources_more : (p : ℕ → Bool) (x : ℕ) (t : Tree) (h : Head) (a b : Tree) (found one more : List ℕ) → t ≡ Node h a b → one ≡ found ++ filter p (put_source (copied x h a) []) → more ≡ one ++ filter p (sources x a) → more ++ filter p (sources x b) ≡ found ++ filter p (sources x t)
sources_more p x t h a b found one more e f g =
    let H = put_source (copied x h a) [] in
    let A = sources x a in
    let B = sources x b in
    let whole = sym (put_before (copied x h a) (A ++ B)) ∙ sym (ap (sources x) e ∙ sources_node x h a b) in
    ap (λ l. l ++ filter p B) (g ∙ ap (λ l. l ++ filter p A) f)
    ∙ (append_assoc (found ++ filter p H) (filter p A) (filter p B) ∙ (append_assoc found (filter p H) (filter p A ++ filter p B)
    ∙ ap (λ ps. found ++ ps) (ap (λ ps. filter p H ++ ps) (sym (filter-append p A B)) ∙ (sym (filter-append p H (A ++ B)) ∙ ap (filter p) whole))))
