-- What a list asks of its parts, wherever it stands.
use Rattle.std.proofs.Common.{◌≡◌, List, refl, ap, sym, ◌∙◌}
use Rattle.cv_syntax_trees.specs.declared.head.Head.{Head}
use Rattle.cv_syntax_trees.specs.declared.head.Head.TheVariants.{Cons}
use Rattle.cv_syntax_trees.specs.Declarations.{Declaration}
use Rattle.cv_pool.specs.KindTree.{KindTree}
use Rattle.cv_typing.specs.declared.arrays.Arrays.{Arrays}
use Rattle.cv_scope_rules.specs.declared.typing.form.Form.{Form}
use Rattle.cv_scope_rules.specs.declared.typing.want.Want.{Want}
use Rattle.cv_scope_rules.specs.declared.typing.want.Want.TheVariants.{Run, Branches, Correspondence, Atoms}
use Rattle.cv_typing.specs.Lookups.{want_of}
use Rattle.cv_scope_rules.specs.typing.Wants.{list_wants, place_wants}

pub place_list : (trees : List KindTree) (r : Arrays) (ds : List Declaration) (w : Want) (h : Head) → h ≡ Cons → ((f : Form) → w ≡ Run f → ⊥) → ((f : Form) → w ≡ Branches f → ⊥) → (w ≡ Correspondence → ⊥) → (w ≡ Atoms → ⊥) → list_wants (want_of trees r w) ≡ place_wants ds (want_of trees r w) h
place_list trees r ds w h e a b c d = step w a b c d ∙ sym (ap (place_wants ds (want_of trees r w)) e)
  where
    step : (w : Want) → ((f : Form) → w ≡ Run f → ⊥) → ((f : Form) → w ≡ Branches f → ⊥) → (w ≡ Correspondence → ⊥) → (w ≡ Atoms → ⊥) → list_wants (want_of trees r w) ≡ place_wants ds (want_of trees r w) Cons
    step (Run f) a b c d = absurd (a f refl)
    step (Branches f) a b c d = absurd (b f refl)
    step Correspondence a b c d = absurd (c refl)
    step Atoms a b c d = absurd (d refl)
    step w a b c d = refl
