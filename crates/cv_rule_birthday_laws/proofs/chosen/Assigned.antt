-- Assigned cells of such a variable are listed.
use Rattle.std.proofs.Common.{◌≡◌, ℕ, true, List, [], ◌∷◌, All, inl, inr, Some, refl, sym, subst}
use Rattle.std.specs.Prelude.{Contains}
use Rattle.std.proofs.lemmas.List.Elements.{All-head, All-tail}
use Rattle.cv_syntax_trees.specs.Declarations.{Declaration}
use Rattle.cv_syntax_trees.specs.Tree.{Tree}
use Rattle.cv_syntax_trees.specs.declared.sites.sort.Sort.TheVariants.{OfType}
use Rattle.cv_syntax_trees.specs.sites.Sites.{Variable, first_site}
use Rattle.cv_meaning.specs.Cells.{cells}
use Rattle.cv_meaning.specs.Experiments.{run}
use Rattle.cv_meaning.specs.Interpretation.{Interpretation, Setting, setting_of}
use Rattle.cv_meaning.specs.Runs.{Adversary, Mode}
use Rattle.cv_meaning.specs.Tapes.{Cell, New_at, Tape}
use Rattle.cv_meaning_laws.proofs.Listed.{Has}
use Rattle.cv_scope_rules.specs.Phrases.{IsWellFormed}
use Rattle.cv_scope_rules.specs.typing.Parts.{IsTypedGame}
use Rattle.cv_scene.specs.Scenes.{has_news_alone}
use Rattle.cv_rule_birthday_laws.specs.chosen.Drawn.{choices_of}
use Rattle.cv_rule_birthday_laws.proofs.chosen.Pairs.{choices_listed, is_choice}
use Rattle.cv_rule_birthday_laws.proofs.chosen.Runs.{last_drawn}

all_has : (P : Cell → Type 0) (cs : List Cell) → All P cs → (c : Cell) → Has cs c → P c
all_has P [] h c k = absurd k
all_has P (d ∷ cs) h c (inl e) = subst P (sym e) (All-head P d cs h)
all_has P (d ∷ cs) h c (inr k) = all_has P cs (All-tail P d cs h) c k

pub assigned_listed : (ds : List Declaration) (i : Interpretation) (m : Mode) (a : Adversary) (game : Tree) (t : Tape) (x type : ℕ) (V : Variable) → IsWellFormed ds game → IsTypedGame ds game → has_news_alone x game ≡ true → first_site x [] game ≡ Some V → V.sort ≡ OfType type
    → (u : List ℕ) (k : ℕ) → (run (setting_of ds i) m a game t).memory.store x u ≡ Some k → Contains (cells (setting_of ds i) m a game) (New_at x u, i.type_size type)
assigned_listed ds i m a game t x type V well typed news first sort u k e =
    let g : Setting = setting_of ds i in
    all_has (λ c. Contains (cells g m a game) (c, i.type_size type)) (choices_of g x V.parameters) (choices_listed ds i m a game x type V well typed news first sort) (New_at x u)
    (is_choice g x V.parameters u (last_drawn ds g m a game t x V refl well news first u k e).1)
