-- A file from its declarations, its proof block and its process.
use Rattle.std.proofs.Common.{◌≡◌, ℕ, ◌<◌, ◌≤◌, false, List, [], ◌∷◌, ◌++◌, length, drop, refl, ap, sym, ◌∙◌, subst, arith, length-drop, Ok, Err, Option}
use Rattle.std.proofs.lemmas.List.{drop_all}
use Rattle.std.specs.Prelude.{map, flat_map}
use Rattle.cv_syntax_trees.specs.Tree.{Tree}
use Rattle.cv_syntax_trees.specs.Declarations.{Declaration}
use Rattle.cv_syntax.specs.Postorder.{postorder}
use Rattle.cv_parse_notation.specs.declared.sign.Sign.{Sign}
use Rattle.cv_parse_notation.specs.declared.sign.Mark.TheVariants as mark
use Rattle.cv_parse_notation.specs.Form.{many, may, ◌&◌, ◌▸◌}
use Rattle.cv_parse_notation.specs.Spells.{Use}
use Rattle.cv_parse_notation.specs.Reads.{Read, Found, Syntax, ◌>>=◌, found}
use Rattle.cv_parse_notation.specs.Whole.{ends_there}
use Rattle.cv_parse_grammar.specs.declared.role.Region.TheVariants.{InProcess}
use Rattle.cv_parse_grammar.specs.declared.role.Role.{Role}
use Rattle.cv_parse_grammar.specs.Declarations.{declaration}
use Rattle.cv_parse_grammar.specs.Files.{levels, read_whole}
use Rattle.cv_parse_grammar.specs.Phrases.{Phrase, inside}
use Rattle.cv_parse_grammar.specs.Processes.{inputs}
use Rattle.cv_parse_grammar.specs.Rules.{File, file, proof_block}
use Rattle.cv_parse_grammar.specs.Whole.{built_in}
use Rattle.cv_parse_terms.specs.declared.trail.NameUse.{NameUse}
use Rattle.cv_parse_terms.specs.declared.trail.Trail.{Trail}
use Rattle.cv_parse_terms.specs.declared.lookahead.ReadError.TheVariants as error
use Rattle.cv_parse_terms.specs.Gives.{Fails, IsMade, IsRead, read_in, uses_of}
use Rattle.cv_parse_terms.proofs.Chains.{both_read, made_read}
use Rattle.cv_parse_declarations.specs.declared.signature.heard.Heard.{Heard}
use Rattle.cv_parse_declarations.specs.signature.Declares.{heard_of, parts_of}
use Rattle.cv_parse_declarations.specs.Sequences.{AreDeclared, joined}
use Rattle.cv_parse_declarations.specs.declared.file.Reading.{Reading}
use Rattle.cv_parse_declarations.specs.Files.{IsReading}

abbrev pub block : Phrase (Option (ℕ × ℕ))
block = may false (mark.Proof ▸ proof_block)

abbrev pub processed : Phrase Tree
processed = mark.Process ▸ inside InProcess inputs

-- the value of a file
abbrev pub file_of : List (List Declaration) → Option (ℕ × ℕ) → Tree → File
file_of ds s t = record { decls = joined ds; script = s; game = t }

pub file_read : (all : List Sign) (u v w y : List NameUse) (ds : List (List Declaration)) (s : Option (ℕ × ℕ)) (t : Tree) (p q end : ℕ) → IsRead all u v (read_in 200 (many false declaration) (drop 0 all)) ds p → IsRead all v w (read_in 200 block (drop p all)) s q → IsRead all w y (read_in 200 processed (drop q all)) t end → IsRead all u y (read_in 200 file (drop 0 all)) (file_of ds s t) end
file_read all u v w y ds s t p q end d e m = made_read (λ (ds, (s, t)). file_of ds s t) (both_read (read_in 200 (block & processed)) d (both_read (read_in 200 processed) e m))

drop_zero : {A : Type 0} (xs : List A) → drop 0 xs ≡ xs
drop_zero [] = refl
drop_zero (x ∷ xs) = refl

ended : (x : Found Role File) → x.rest ≡ [] → ends_there x ≡ Ok x
ended x e = rw e refl

not_ended : (x : Found Role File) (l : List Sign) → x.rest ≡ l → 0 < length l → ends_there x ≡ Err (Syntax (length l))
not_ended x [] e h = absurd (omega arith)
not_ended x (t ∷ ts) e h = rw e refl

whole_read : (all : List Sign) (u w : List NameUse) (v : File) (end : ℕ) → uses_of u ≡ built_in ∷ [] → IsRead all u w (read_in 200 file (drop 0 all)) v end → length all ≤ end → (us : List (Use Role)) × (read_whole levels all ≡ Ok (record { value = v; uses = us; rest = [] })) × (uses_of w ≡ built_in ∷ us)
whole_read all u w v end b d l = (
  d.uses,
  ap (λ ts. read_in 200 file ts >>= ends_there) (sym (drop_zero all))
      ∙ (ap (λ r. r >>= ends_there) d.is ∙ (ended (record { value = v; uses = d.uses; rest = drop end all }) (drop_all end all l) ∙ ap (λ ts. found v d.uses ts) (drop_all end all l))),
  d.noted ∙ ap (λ us. us ++ d.uses) b,
)

pub file_goes_on : (all : List Sign) (u w : List NameUse) (v : File) (end : ℕ) → IsRead all u w (read_in 200 file (drop 0 all)) v end → end < length all → Fails all (error.Syntax end) (read_whole levels all)
file_goes_on all u w v end d l = (
  omega arith,
  ap (λ ts. read_in 200 file ts >>= ends_there) (sym (drop_zero all))
      ∙ (ap (λ r. r >>= ends_there) d.is ∙ (not_ended (record { value = v; uses = d.uses; rest = drop end all }) (drop end all) refl (omega (arith, length-drop end all)) ∙ ap (λ n. let r : Read Role File = Err (Syntax n) in r) (length-drop end all))),
)

pub reading_of : (all : List Sign) (t u v y : Trail) (w : List NameUse) (f h : List Heard) (script : Option (ℕ × ℕ)) (r : Reading) (p q end : ℕ) → uses_of t.uses.items ≡ built_in ∷ [] → t.makes.items ≡ [] → f ≡ [] → AreDeclared all t u f h (read_in 200 (many false declaration) (drop 0 all)) p → IsRead all u.uses.items w (read_in 200 block (drop p all)) script q → v.uses.items ≡ w → v.makes.items ≡ [] → IsMade postorder all v y (read_in 200 processed (drop q all)) end → length all ≤ end → r.uses ≡ y.uses → r.process ≡ y.makes → r.heard.items ≡ h → r.trees.items ≡ u.makes.items → r.script ≡ script → IsReading all r
reading_of all t u v y w f h script r p q end eu em ef d e vu vm m l ru rp rh rt rs =
    let whole = whole_read all t.uses.items y.uses.items (file_of d.value script m.value) end eu (file_read all t.uses.items u.uses.items w y.uses.items d.value script m.value p q end d.read e (subst (λ us. IsRead all us y.uses.items (read_in 200 processed (drop q all)) m.value end) vu m.read)) l in
    record {
      value = file_of d.value script m.value;
      uses = whole.0;
      is = whole.1;
      noted = ap (λ v. uses_of v.items) ru ∙ whole.2;
      hears = record {
        heard = rh ∙ (d.heard ∙ ap (λ l. l ++ map heard_of (joined d.value)) ef);
        trees = rt ∙ (d.makes ∙ ap (λ l. l ++ flat_map parts_of (joined d.value)) em);
        process = ap (λ v. v.items) rp ∙ (m.makes ∙ ap (λ l. l ++ postorder m.value) vm);
        script = rs;
        whole = d.whole;
      };
    }

pub file_unended : (all : List Sign) (t u v y : Trail) (w : List NameUse) (f h : List Heard) (script : Option (ℕ × ℕ)) (p q end : ℕ) → AreDeclared all t u f h (read_in 200 (many false declaration) (drop 0 all)) p → IsRead all u.uses.items w (read_in 200 block (drop p all)) script q → v.uses.items ≡ w → IsMade postorder all v y (read_in 200 processed (drop q all)) end → end < length all → Fails all (error.Syntax end) (read_whole levels all)
file_unended all t u v y w f h script p q end d e vu m l =
    file_goes_on all t.uses.items y.uses.items (file_of d.value script m.value) end (file_read all t.uses.items u.uses.items w y.uses.items d.value script m.value p q end d.read e (subst (λ us. IsRead all us y.uses.items (read_in 200 processed (drop q all)) m.value end) vu m.read)) l
