-- The types of the equivalences of a typed file are declared, so the advantages of contexts have tapes.
use Rattle.std.proofs.Common.{◌≡◌, ℕ, List, [], ◌∷◌, Contains, inl, inr, Ok, Option, sym, subst}
use Rattle.cv_syntax_trees.specs.Declarations.{Declaration, Equiv}
use Rattle.cv_syntax_trees.specs.Tree.{Tree}
use Rattle.cv_meaning.specs.Experiments.{Experiment, mode_of}
use Rattle.cv_meaning.specs.Interpretation.{Interpretation}
use Rattle.cv_meaning.specs.Runs.{Adversary}
use Rattle.cv_meaning.specs.Satisfies.{Satisfies}
use Rattle.cv_meaning_laws.proofs.Listed.{Has}
use Rattle.cv_meaning_laws.proofs.adequacy.Lists.{contains_has}
use Rattle.cv_meaning_chances.specs.Fractions.{HasTapes}
use Rattle.cv_meaning.specs.contexts.ContextAdvantage.{context_advantage}
use Rattle.cv_meaning_chances.specs.values.Values.{HasValuesIn}
use Rattle.cv_parse_notation.specs.declared.sign.Sign.{Sign}
use Rattle.cv_parse_grammar.specs.Files.{levels}
use Rattle.cv_parse_grammar.specs.Rules.{File, file, heads, rule}
use Rattle.cv_parse_grammar.specs.Whole.{IsRead}
use Rattle.cv_parse_grammar.proofs.Identities.{declared_names}
use Rattle.cv_parse.specs.Parsed.{Parsed, bool_type, parsed}
use Rattle.cv_parse.proofs.Exactness.{said_is_saying}
use Rattle.cv_parse_grammar.proofs.yields.Yielding.{forms_tell}
use Rattle.cv_parse_laws.proofs.roles.Declared.{all_asked}
use Rattle.cv_parse_laws.proofs.roles.Games.{kinds}
use Rattle.cv_parse_laws.proofs.roles.Rows.{Asked}
use Rattle.cv_scope_rules.specs.typing.Parts.{IsTypedFile}
use Rattle.cv_scene.specs.Reductions.{Reduction, context_of_game, in_game}
use Rattle.cv_context_files.specs.tapes.Declared.{HasDeclaredTypes}
use Rattle.cv_context_files.proofs.tapes.Fixed.{bodies_choose_declared}
use Rattle.cv_context_files.proofs.tapes.Tapes.{advantage_tapes}
use Rattle.cv_context_files.proofs.types.Rows.{HasGroups, HaveGroups, IfEquivalence, OfSort, of_file, rows}

read_groups : (ts : List Sign) (ds : List Declaration) (s : Option (ℕ × ℕ)) (g : Tree) → IsRead ts ds s g → HaveGroups (bool_type ∷ ds) ds
read_groups ts ds s g w =
    let said : File = record { decls = ds; script = s; game = w.text } in
    let asked = all_asked w.uses ds w.named (declared_names levels ts said w.uses w.spelled) (kinds ts ds s g w) in
    (of_file (bool_type ∷ ds)).gives said (forms_tell (Asked (bool_type ∷ ds)) (OfSort (bool_type ∷ ds)) heads rule (rows (bool_type ∷ ds)) file levels ts said w.uses [] w.spelled asked)

groups_at : (ds es : List Declaration) → HaveGroups ds es → (d : Declaration) → Has es d → IfEquivalence ds d
groups_at ds [] h d k = absurd k
groups_at ds (e ∷ es) h d (inl q) = subst (IfEquivalence ds) (sym q) h.0
groups_at ds (e ∷ es) h d (inr k) = groups_at ds es h.1 d k

file_groups : (limit : ℕ) (signs : List Sign) (p : Parsed) → parsed limit signs ≡ Ok p → HaveGroups p.declarations p.declarations
file_groups limit signs p e =
    let w = said_is_saying limit signs p e in
    let h : HaveGroups (bool_type ∷ w.decls) (bool_type ∷ w.decls) = (tt, read_groups signs w.decls w.script p.game w.read) in
    subst (λ ds. HaveGroups ds ds) (sym w.declared) h

pub types_declared : (limit : ℕ) (signs : List Sign) (p : Parsed) → parsed limit signs ≡ Ok p → IsTypedFile p.declarations p.game → (name : ℕ) (equivalence : Tree) → Contains p.declarations (Equiv name equivalence)
    → HasDeclaredTypes p.declarations equivalence
types_declared limit signs p e t name equivalence k =
    let h : HasGroups p.declarations equivalence = groups_at p.declarations p.declarations (file_groups limit signs p e) (Equiv name equivalence) (contains_has p.declarations (Equiv name equivalence) k) in
    record { key = λ which. (h which).key; coins = λ which. (h which).coins; bodies = bodies_choose_declared p.declarations p.game name equivalence t k }

pub tapes_there : (limit : ℕ) (signs : List Sign) (p : Parsed) → parsed limit signs ≡ Ok p → IsTypedFile p.declarations p.game → (r : Reduction) (name : ℕ) → r.scene.declarations ≡ p.declarations
    → Contains p.declarations (Equiv name r.equivalence) → (i : Interpretation) → Satisfies p.declarations i → (x : Experiment) (a : Adversary) → HasValuesIn (in_game r i) (mode_of x) r.scene.game
    → HasTapes (context_advantage r.scene.declarations i (context_of_game r) x a)
tapes_there limit signs p e t r name q k i sat x a v =
    advantage_tapes r i x a (subst (λ ds. Satisfies ds i) (sym q) sat) (subst (λ ds. HasDeclaredTypes ds r.equivalence) (sym q) (types_declared limit signs p e t name r.equivalence k)) v
