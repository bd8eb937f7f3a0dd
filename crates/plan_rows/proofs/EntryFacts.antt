-- The row of an entry, by the slots of its table.
use Rattle.std.proofs.Common.{◌≡◌, ℕ, Bool, true, false, not, ◌&&◌, ◌||◌, codes, refl, sym, subst, ◌∙◌, inl, inr}
use Rattle.std.specs.Prelude.{is_some}
use Rattle.std.specs.List.{list_any}
use Rattle.std.specs.Str.{bytes_eq}
use Rattle.std.proofs.Math.Bool.{or-true}
use Rattle.std.proofs.lemmas.Bool.{cases_Bool}
use Rattle.std.proofs.lemmas.Cmp.{nat_list_eq_equiv}
use Rattle.std.proofs.lemmas.Slice.Eq.{bytes_eq-Decides}
use Rattle.toml.specs.Data.{Data, string, integer, float, boolean, datetime, array, table, Members, no_members, member, get_member}
use Rattle.sync_topo.specs.declared.place.Section.TheVariants.{Elements, Links, Sources}
use Rattle.sync_text.specs.Chain.{◌>>=◌}
use Rattle.plan_rows.specs.declared.version.Version.{Version}
use Rattle.plan_rows.specs.declared.version.Version.TheVariants.{One, Two}
use Rattle.plan_rows.specs.Format.{keys_of}
use Rattle.plan_rows.specs.Rules.{has_only, refusal_of}
use Rattle.plan_rows.specs.Rows.{element_row, link_row, source_row}
use Rattle.plan_rows.specs.private.Rows.{row_at}
use Rattle.plan_rows.specs.Slots.{said_by}
use Rattle.plan_rows.specs.private.Slots.{slots_of}
use Rattle.plan_rows.specs.Values.{element_said, link_said, source_said}
use Rattle.plan_rows.specs.private.Values.{of_version, table_in}
use Rattle.plan_rows.proofs.ValueFacts.{other_member, refusal_is}

pub element_in_table : (n : ℕ) (fields : Members)
    → row_at One element_row Elements n (table fields) ≡ said_by (record { section = Elements; row = n }) (keys_of Two Elements) element_said (slots_of (keys_of Two Elements) fields)
unfolding element_row
element_in_table n fields = rw (refusal_is One (record { section = Elements; row = n }) fields) refl

pub element_in_entry : (n : ℕ) (entry : Data)
    → row_at One element_row Elements n entry
    ≡ (table_in (record { section = Elements; row = n }) entry >>= λ fields. said_by (record { section = Elements; row = n }) (keys_of Two Elements) element_said (slots_of (keys_of Two Elements) fields))
unfolding refusal_of
element_in_entry n (table fields) = element_in_table n fields
element_in_entry n (string s) = refl
element_in_entry n (integer z) = refl
element_in_entry n (float x) = refl
element_in_entry n (boolean b) = refl
element_in_entry n (datetime d) = refl
element_in_entry n (array ds) = refl

pub source_in_table : (n : ℕ) (fields : Members)
    → row_at One source_row Sources n (table fields) ≡ said_by (record { section = Sources; row = n }) (keys_of Two Sources) source_said (slots_of (keys_of Two Sources) fields)
unfolding source_row
source_in_table n fields = rw (refusal_is One (record { section = Sources; row = n }) fields) refl

pub source_in_entry : (n : ℕ) (entry : Data)
    → row_at One source_row Sources n entry
    ≡ (table_in (record { section = Sources; row = n }) entry >>= λ fields. said_by (record { section = Sources; row = n }) (keys_of Two Sources) source_said (slots_of (keys_of Two Sources) fields))
unfolding refusal_of
source_in_entry n (table fields) = source_in_table n fields
source_in_entry n (string s) = refl
source_in_entry n (integer z) = refl
source_in_entry n (float x) = refl
source_in_entry n (boolean b) = refl
source_in_entry n (datetime d) = refl
source_in_entry n (array ds) = refl

-- a member more of a key that both versions have, or of one that neither has
more : (here one two bundle : Bool) → not one ≡ (not two || bundle) → not (here && one) ≡ (not (here && two) || bundle)
more true one two bundle is = is
more false one two bundle is = refl

-- a link has other keys in the first version where it has some in the second, or a bundle
without_is : (fields : Members) → not (has_only (keys_of One Links) fields) ≡ (not (has_only (keys_of Two Links) fields) || is_some (get_member (codes "bundle") fields))
without_is no_members = refl
without_is (member name value rest) = elim (cases_Bool (bytes_eq name (codes "bundle"))) [
  | inl same ↦
      let is : codes "bundle" ≡ name = sym ((bytes_eq-Decides name (codes "bundle")).0 same) in
      subst (λ n. not (has_only (keys_of One Links) (member n value rest)) ≡ (not (has_only (keys_of Two Links) (member n value rest)) || is_some (get_member (codes "bundle") (member n value rest))))
      is (sym (or-true (not (has_only (keys_of Two Links) rest))))
  | inr other ↦
      let turned : bytes_eq (codes "bundle") name ≡ false = nat_list_eq_equiv.symm (codes "bundle") name ∙ other in
      rw (other_member name (codes "bundle") value rest other, turned)
      (more (list_any (λ key. bytes_eq key.name name) (keys_of One Links)) (has_only (keys_of One Links) rest) (has_only (keys_of Two Links) rest) (is_some (get_member (codes "bundle") rest)) (without_is rest))
]

pub link_in_table : (version : Version) (n : ℕ) (fields : Members)
    → row_at version (link_row version) Links n (table fields)
    ≡ said_by (record { section = Links; row = n }) (keys_of Two Links) link_said (of_version version (slots_of (keys_of Two Links) fields))
unfolding link_row
link_in_table Two n fields = rw (refusal_is Two (record { section = Links; row = n }) fields) refl
link_in_table One n fields = rw (refusal_is One (record { section = Links; row = n }) fields, without_is fields) refl

pub link_in_entry : (version : Version) (n : ℕ) (entry : Data)
    → row_at version (link_row version) Links n entry
    ≡ (table_in (record { section = Links; row = n }) entry >>= λ fields. said_by (record { section = Links; row = n }) (keys_of Two Links) link_said (of_version version (slots_of (keys_of Two Links) fields)))
unfolding refusal_of
link_in_entry version n (table fields) = link_in_table version n fields
link_in_entry version n (string s) = refl
link_in_entry version n (integer z) = refl
link_in_entry version n (float x) = refl
link_in_entry version n (boolean b) = refl
link_in_entry version n (datetime d) = refl
link_in_entry version n (array ds) = refl
