-- Files by their names.
use Rattle.std.proofs.Common.{◌≡◌, ◌≢◌, ℕ, Bool, false, true, cond, Some, refl, ap, sym, ◌∙◌}
use Rattle.std.specs.Ordering.{nat_cmp}
use Rattle.std.specs.Cmp.{IsTotalOrder}
use Rattle.std.specs.BTreeMap as tree
use Rattle.std.specs.BTreeMap.{BTreeMap}
use Rattle.std.proofs.lemmas.Bool.{false_from_ne_true}
use Rattle.std.proofs.lemmas.Cmp.{then_total, on_total, nat_cmp_total, eq_by_cmp_equiv}
use Rattle.std.proofs.lemmas.Map.Views.{tells_apart}
use Rattle.std.proofs.lemmas.Map.Lookups.{exact_pairs, exact_unsigned, CmpEqualImpliesEq}
use Rattle.chv_site.specs.declared.file_id.FileId.{FileId}
use Rattle.chv_site.specs.declared.mem_file.MemFile.{MemFile}
use Rattle.chv_site.specs.MemFile.{kept_in_file}
use Rattle.chv_site.specs.FileStore.{kept_in}
use Rattle.chv_site.specs.Calls.{Kept, id_cmp, is_file}

-- names that compare alike are one
exact_ids : CmpEqualImpliesEq id_cmp
exact_ids a b h =
    ap (λ (p : ℕ × ℕ). record { table = p.0; part = p.1 })
    (exact_pairs nat_cmp nat_cmp exact_unsigned exact_unsigned (a.table, a.part) (b.table, b.part) h)

ids_total : IsTotalOrder id_cmp
ids_total = then_total (on_total (λ (f : FileId). f.table) nat_cmp_total) (on_total (λ (f : FileId). f.part) nat_cmp_total)

-- a name is found by itself
pub is_file-same : (f : FileId) → is_file f f ≡ true
is_file-same f = (eq_by_cmp_equiv ids_total).refl f

-- and by no other
pub is_file-exact : (f g : FileId) → is_file f g ≡ true → g ≡ f
is_file-exact f g h = sym (tells_apart exact_ids f g h)

pub is_file-apart : (f g : FileId) → g ≢ f → is_file f g ≡ false
is_file-apart f g apart = false_from_ne_true _ (λ h. apart (is_file-exact f g h))

-- a step of the files' bytes by a test, where the map's entry at f becomes w
updated_by : (m n : BTreeMap FileId MemFile) (step : Kept → Kept) (f g : FileId) (w : MemFile) (b : Bool) → is_file f g ≡ b
    → tree.get id_cmp n g ≡ cond b (Some w) (tree.get id_cmp m g) → kept_in_file w ≡ step (kept_in (tree.get id_cmp m f))
    → kept_in (tree.get id_cmp n g) ≡ cond b (step (kept_in (tree.get id_cmp m g))) (kept_in (tree.get id_cmp m g))
updated_by m n step f g w true here h is =
    ap kept_in h ∙ is ∙ ap (λ (x : FileId). step (kept_in (tree.get id_cmp m x))) (sym (is_file-exact f g here))
updated_by m n step f g w false here h is = ap kept_in h

-- where one file is replaced by what a step makes of it, all others stay
pub updated : (m n : BTreeMap FileId MemFile) (step : Kept → Kept) (f : FileId) (w : MemFile)
    → ((q : FileId) → tree.get id_cmp n q ≡ cond (is_file f q) (Some w) (tree.get id_cmp m q))
    → kept_in_file w ≡ step (kept_in (tree.get id_cmp m f)) → (g : FileId)
    → kept_in (tree.get id_cmp n g) ≡ cond (is_file f g) (step (kept_in (tree.get id_cmp m g))) (kept_in (tree.get id_cmp m g))
updated m n step f w updates is g = updated_by m n step f g w _ refl (updates g) is

same_either : (b : Bool) (k : Kept) → cond b k k ≡ k
same_either true k = refl
same_either false k = refl

-- where one file is replaced by itself, each stays
pub kept : (m n : BTreeMap FileId MemFile) (f : FileId) (w : MemFile)
    → ((q : FileId) → tree.get id_cmp n q ≡ cond (is_file f q) (Some w) (tree.get id_cmp m q))
    → kept_in_file w ≡ kept_in (tree.get id_cmp m f) → (g : FileId)
    → kept_in (tree.get id_cmp n g) ≡ kept_in (tree.get id_cmp m g)
kept m n f w updates is g = updated m n (λ k. k) f w updates is g ∙ same_either (is_file f g) _
