-- What is computed of a file is what is meant.
use Rattle.std.proofs.Common.{◌≡◌, ℕ, List, [], ◌∷◌, Option, Some, None, Ok, Err, refl, ap, ◌∙◌, subst}
use Rattle.cv_syntax_trees.specs.Declarations.{Declaration}
use Rattle.cv_syntax_trees.specs.Tree.{Tree}
use Rattle.cv_parse_notation.specs.declared.sign.Sign.{Sign}
use Rattle.cv_parse_notation.specs.Reads.{Found, Read}
use Rattle.cv_parse_notation.proofs.Whole.{whole_sound, whole_complete}
use Rattle.cv_parse_grammar.specs.declared.role.Role.{Role}
use Rattle.cv_parse_grammar.specs.Files.{levels, IsFile, read_whole}
use Rattle.cv_parse_grammar.specs.Names.{NameFault, name_fault}
use Rattle.cv_parse_grammar.specs.Rules.{File, rule, heads, tails, file}
use Rattle.cv_parse_grammar.specs.Whole.{IsRead, IsMisnamed, Content, Misnamed, built_in, content_of, unless, outcome_of, outcome}
use Rattle.cv_parse_grammar.proofs.Fitting.{all_fit, file_fits}
use Rattle.cv_parse_grammar.proofs.Names.{no_fault, named_has_none, fault_is_first, first_is_fault}

file_sound : (ts : List Sign) (x : Found Role File) → read_whole levels ts ≡ Ok x → IsFile levels ts x.value x.uses []
file_sound ts x e = whole_sound heads tails rule all_fit file file_fits refl levels ts x e

-- a file is accepted

content_then : (ts : List Sign) (x : Found Role File) → IsFile levels ts x.value x.uses [] → (o : Option NameFault) → name_fault (built_in ∷ x.uses) ≡ o → (k : Content) → unless o x.value ≡ Ok k → IsRead ts k.0 k.1.0 k.1.1
content_then ts x d (Some e) i k j = absurd (cc)
content_then ts x d None i k j =
    let same : content_of x.value ≡ k = cc in
    subst (λ z. IsRead ts z.0 z.1.0 z.1.1) same (record { text = x.value.game; uses = x.uses; spelled = d; named = no_fault (built_in ∷ x.uses) i; stands_for = refl })

read_then : (ts : List Sign) (r : Read Role File) → read_whole levels ts ≡ r → (k : Content) → outcome_of r ≡ Ok k → IsRead ts k.0 k.1.0 k.1.1
read_then ts (Err e) i k j = absurd (cc)
read_then ts (Ok x) i k j = content_then ts x (file_sound ts x i) (name_fault (built_in ∷ x.uses)) refl k j

pub accepted_is_read : (ts : List Sign) (ds : List Declaration) (s : Option (ℕ × ℕ)) (g : Tree) → outcome ts ≡ Ok (ds, (s, g)) → IsRead ts ds s g
accepted_is_read ts ds s g e = read_then ts (read_whole levels ts) refl (ds, (s, g)) e

pub read_is_accepted : (ts : List Sign) (ds : List Declaration) (s : Option (ℕ × ℕ)) (g : Tree) → IsRead ts ds s g → outcome ts ≡ Ok (ds, (s, g))
read_is_accepted ts ds s g w =
    let f : File = record { decls = ds; script = s; game = w.text } in
    ap outcome_of (whole_complete heads tails rule all_fit file file_fits refl levels ts f w.uses w.spelled)
    ∙ (ap (λ o. unless o f) (named_has_none (built_in ∷ w.uses) w.named) ∙ ap (λ t. Ok (ds, (s, t))) w.stands_for)

-- a file's names are refused

misnamed_then : (ts : List Sign) (x : Found Role File) → IsFile levels ts x.value x.uses [] → (o : Option NameFault) → name_fault (built_in ∷ x.uses) ≡ o → (f : NameFault) → unless o x.value ≡ Err (Misnamed f) → IsMisnamed ts f
misnamed_then ts x d None i f j = absurd (cc)
misnamed_then ts x d (Some e) i f j = let same : e ≡ f = cc in record { file = x.value; uses = x.uses; spelled = d; fault = fault_is_first (built_in ∷ x.uses) f (i ∙ ap Some same) }

refused_then : (ts : List Sign) (r : Read Role File) → read_whole levels ts ≡ r → (f : NameFault) → outcome_of r ≡ Err (Misnamed f) → IsMisnamed ts f
refused_then ts (Err e) i f j = absurd (cc)
refused_then ts (Ok x) i f j = misnamed_then ts x (file_sound ts x i) (name_fault (built_in ∷ x.uses)) refl f j

pub refused_is_misnamed : (ts : List Sign) (f : NameFault) → outcome ts ≡ Err (Misnamed f) → IsMisnamed ts f
refused_is_misnamed ts f e = refused_then ts (read_whole levels ts) refl f e

pub misnamed_is_refused : (ts : List Sign) (f : NameFault) → IsMisnamed ts f → outcome ts ≡ Err (Misnamed f)
misnamed_is_refused ts f w =
    ap outcome_of (whole_complete heads tails rule all_fit file file_fits refl levels ts w.file w.uses w.spelled) ∙ ap (λ o. unless o w.file) (first_is_fault (built_in ∷ w.uses) f w.fault)
