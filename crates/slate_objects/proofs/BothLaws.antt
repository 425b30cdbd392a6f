-- Both laws of each kind of value.
use Rattle.std.proofs.Common.{◌≡◌, ℕ, zero, suc, ◌≤◌, Bool, true, false, cond, ltb, List, [], ◌∷◌, ◌++◌, length, take, drop, Option, None, Result, Ok, Err, refl, sym, ap, ◌∙◌, subst, arith}
use Rattle.std.specs.Str.{is_utf8}
use Rattle.std.proofs.lemmas.Bool.{ltb-false, le-ltb}
use Rattle.std.proofs.lemmas.List.{take_at, drop_at, take-append-drop, length-append, length-take}
use Rattle.std.proofs.lemmas.Str.{IsUtf8-from_is_utf8, is_utf8-from_IsUtf8}
use Rattle.slate_types.specs.declared.batches.Op.{Op}
use Rattle.slate_types.specs.declared.batches.Op.TheVariants as ops
use Rattle.slate_store.specs.declared.objects.Manifest.{Manifest}
use Rattle.slate_objects.specs.declared.faults.DecodeFault.{DecodeFault}
use Rattle.slate_objects.specs.declared.faults.DecodeFault.TheVariants.{NotText, TooShort}
use Rattle.slate_objects.specs.Reading.{◌>>=◌, IsBytes, both_at, bytes_at, list_at, made_at, option_at, tag_at}
use Rattle.slate_objects.specs.Spelling.{bytes_of}
use Rattle.slate_objects.specs.Batches.{BatchFits, KeyOpFits, OpFits, ValueFits, batch_at, batch_of, key_op_at, key_op_of, op_at, op_of, value_at, value_of}
use Rattle.slate_objects.specs.Manifests.{CheckpointFits, FlagFits, FieldParts, FieldsFit, ManifestFits, NameFits, TableIdFits, UuidFits, field_parts, fields_at, fields_of, checkpoint_at, checkpoint_made, checkpoint_of, checkpoint_parts, flag_at, flag_of, manifest_at, manifest_of, manifest_parts, tracked, untracked, untracked_at, untracked_of, name_at, name_in, table_id_at, table_id_of, table_id_parts, uuid_at, uuid_of}
use Rattle.slate_objects.proofs.Laws.{IsBytes-drop, byte_format, done, IsBytes-rest, IsFormat, Takes, bind_ok, both_format, bytes_format, guard_ok, list_format, made_format, number_format, ok_is, option_format, time_format}

-- ---- batches

value_format : IsFormat value_at value_of ValueFits
value_format = both_format bytes_format (option_format time_format)

op_takes : (bytes : List ℕ) (op : Op) (rest : List ℕ) → IsBytes bytes → op_at bytes ≡ Ok (op, rest) → Takes bytes (op_of op) rest × OpFits op
unfolding op_at tag_at
op_takes [] op rest fits e = absurd cc
op_takes (zero ∷ bytes) op rest fits e =
    let b = bind_ok (value_at bytes) (λ x. Ok (ops.Put x.0.0 x.0.1, x.1)) (op, rest) e in
    let t = value_format.takes bytes b.0.0 b.0.1 (IsBytes-rest 0 bytes fits) b.1 in
    subst (λ (x : Op × List ℕ). Takes (0 ∷ bytes) (op_of x.0) x.1 × OpFits x.0) (ok_is (ops.Put b.0.0.0 b.0.0.1, b.0.1) (op, rest) b.2) (record { parts = ap (λ (w : List ℕ). 0 ∷ w) t.0.parts; rest_fits = t.0.rest_fits }, t.1)
op_takes (suc zero ∷ bytes) op rest fits e =
    subst (λ (x : Op × List ℕ). Takes (1 ∷ bytes) (op_of x.0) x.1 × OpFits x.0) (ok_is (ops.Delete, bytes) (op, rest) e) (record { parts = refl; rest_fits = IsBytes-rest 1 bytes fits }, tt)
op_takes (suc (suc zero) ∷ bytes) op rest fits e =
    let b = bind_ok (value_at bytes) (λ x. Ok (ops.Merge x.0.0 x.0.1, x.1)) (op, rest) e in
    let t = value_format.takes bytes b.0.0 b.0.1 (IsBytes-rest 2 bytes fits) b.1 in
    subst (λ (x : Op × List ℕ). Takes (2 ∷ bytes) (op_of x.0) x.1 × OpFits x.0) (ok_is (ops.Merge b.0.0.0 b.0.0.1, b.0.1) (op, rest) b.2) (record { parts = ap (λ (w : List ℕ). 2 ∷ w) t.0.parts; rest_fits = t.0.rest_fits }, t.1)
op_takes (suc (suc (suc n)) ∷ bytes) op rest fits e = absurd cc

op_again : (op : Op) (rest : List ℕ) → OpFits op → op_at (op_of op ++ rest) ≡ Ok (op, rest)
unfolding op_at tag_at
op_again (ops.Put value expire) rest fits = rw (value_format.again (value, expire) rest fits) refl
op_again ops.Delete rest fits = refl
op_again (ops.Merge operand expire) rest fits = rw (value_format.again (operand, expire) rest fits) refl

op_format : IsFormat op_at op_of OpFits
op_format = record { takes = op_takes; again = op_again }

pub key_op_format : IsFormat key_op_at key_op_of KeyOpFits
unfolding key_op_at
key_op_format = made_format _ (λ o. (o.key, o.op)) (λ x. refl) (λ o. refl) (both_format bytes_format op_format)

pub batch_format : IsFormat batch_at batch_of BatchFits
unfolding batch_at
batch_format = made_format _ (λ b. (b.number, (b.create_ts, b.ops))) (λ x. refl) (λ b. refl) (both_format number_format (both_format time_format (list_format key_op_format)))

-- ---- manifests

flag_takes : (bytes : List ℕ) (flag : Bool) (rest : List ℕ) → IsBytes bytes → flag_at bytes ≡ Ok (flag, rest) → Takes bytes (flag_of flag) rest × FlagFits flag
unfolding flag_at tag_at
flag_takes [] flag rest fits e = absurd cc
flag_takes (zero ∷ bytes) flag rest fits e =
    subst (λ (x : Bool × List ℕ). Takes (0 ∷ bytes) (flag_of x.0) x.1 × FlagFits x.0) (ok_is (false, bytes) (flag, rest) e) (record { parts = refl; rest_fits = IsBytes-rest 0 bytes fits }, tt)
flag_takes (suc zero ∷ bytes) flag rest fits e =
    subst (λ (x : Bool × List ℕ). Takes (1 ∷ bytes) (flag_of x.0) x.1 × FlagFits x.0) (ok_is (true, bytes) (flag, rest) e) (record { parts = refl; rest_fits = IsBytes-rest 1 bytes fits }, tt)
flag_takes (suc (suc n) ∷ bytes) flag rest fits e = absurd cc

flag_again : (flag : Bool) (rest : List ℕ) → FlagFits flag → flag_at (flag_of flag ++ rest) ≡ Ok (flag, rest)
unfolding flag_at tag_at
flag_again false rest fits = refl
flag_again true rest fits = refl

flag_format : IsFormat flag_at flag_of FlagFits
flag_format = record { takes = flag_takes; again = flag_again }

uuid_format : IsFormat uuid_at uuid_of UuidFits
unfolding uuid_at
uuid_format = record {
  takes = λ bytes id rest fits e.
      let g = guard_ok (ltb (length bytes) 16) TooShort (take 16 bytes, drop 16 bytes) (id, rest) e in
      let long : 16 ≤ length bytes = ltb-false _ _ g.0 in
      subst (λ (p : List ℕ × List ℕ). Takes bytes p.0 p.1 × UuidFits p.0) g.1
      (record { parts = sym (take-append-drop 16 bytes); rest_fits = IsBytes-drop 16 bytes fits }, omega (arith, length-take 16 bytes));
  again = λ id rest len.
      let long : ltb (length (id ++ rest)) 16 ≡ false = le-ltb _ _ (omega (arith, length-append id rest, len)) in
      rw (long, take_at id rest 16 len, drop_at id rest 16 len) refl;
}

chosen : (b : Bool) (text name : List ℕ) → cond b (Ok text) (Err NotText) ≡ Ok name → (b ≡ true) × (text ≡ name)
chosen true text name e = (refl, cc)
chosen false text name e = absurd cc

name_found : (text name : List ℕ) → name_in text ≡ Ok name → (is_utf8 text ≡ true) × (text ≡ name)
unfolding name_in
name_found text name e = chosen (is_utf8 text) text name e

name_format : IsFormat name_at bytes_of NameFits
unfolding name_at name_in
name_format = record {
  takes = λ bytes name rest fits e.
      let a = bind_ok (bytes_at bytes) (λ found. name_in found.0 >>= λ name. Ok (name, found.1)) (name, rest) e in
      let b = bind_ok (name_in a.0.0) (λ name. Ok (name, a.0.1)) (name, rest) a.2 in
      let found = name_found a.0.0 b.0 b.1 in
      let t = bytes_format.takes bytes a.0.0 a.0.1 fits a.1 in
      let made : List ℕ × List ℕ = (b.0, a.0.1) in
      let one : Takes bytes (bytes_of b.0) a.0.1 × NameFits b.0 = subst (λ (x : List ℕ). Takes bytes (bytes_of x) a.0.1 × NameFits x) found.1 (t.0, (t.1, IsUtf8-from_is_utf8 a.0.0 found.0)) in
      subst (λ (p : List ℕ × List ℕ). Takes bytes (bytes_of p.0) p.1 × NameFits p.0) (ok_is made (name, rest) b.2) one;
  again = λ name rest fits.
      rw (bytes_format.again name rest fits.0, is_utf8-from_IsUtf8 name fits.1) refl;
}

table_id_format : IsFormat table_id_at table_id_of TableIdFits
unfolding table_id_at
table_id_format = made_format _ table_id_parts (λ x. refl) (λ id. refl) (both_format number_format number_format)

checkpoint_format : IsFormat checkpoint_at checkpoint_of CheckpointFits
unfolding checkpoint_at
checkpoint_format = made_format checkpoint_made checkpoint_parts (λ x. refl) (λ c. refl) (both_format uuid_format (both_format number_format (both_format time_format (option_format time_format))))

fields_format : IsFormat fields_at fields_of FieldsFit
fields_format =
    both_format number_format (both_format flag_format (both_format (list_format table_id_format) (both_format number_format
    (both_format time_format (both_format number_format (both_format number_format (both_format (list_format checkpoint_format)
    (both_format (list_format bytes_format) (option_format name_format)))))))))

-- today's manifests are read as their fields, and then the tracker
abbrev with_fields : FieldParts → Option (List ℕ) × List ℕ → Result ((FieldParts × Option (List ℕ)) × List ℕ) DecodeFault
with_fields fields t = Ok ((fields, t.0), t.1)

abbrev with_tracker : Manifest → Option (List ℕ) × List ℕ → Result (Manifest × List ℕ) DecodeFault
with_tracker manifest t = Ok (record manifest { sequence_tracker = t.0 }, t.1)

abbrev made_tracked : (FieldParts × Option (List ℕ)) × List ℕ → Result (Manifest × List ℕ) DecodeFault
made_tracked x = Ok (tracked x.0, x.1)

abbrev made_untracked : FieldParts × List ℕ → Result (Manifest × List ℕ) DecodeFault
made_untracked x = Ok (untracked x.0, x.1)

manifest_at_is : (bytes : List ℕ) → manifest_at bytes ≡ made_at tracked (both_at fields_at (option_at (list_at tag_at))) bytes
unfolding manifest_at untracked_at
manifest_at_is bytes = go (fields_at bytes) where
  behind : (fields : FieldParts) (t : Result (Option (List ℕ) × List ℕ) DecodeFault) → (t >>= with_tracker (untracked fields)) ≡ ((t >>= with_fields fields) >>= made_tracked)
  behind fields (Ok t) = refl
  behind fields (Err fault) = refl

  go : (r : Result (FieldParts × List ℕ) DecodeFault) →
      ((r >>= made_untracked) >>= λ m. option_at (list_at tag_at) m.1 >>= with_tracker m.0) ≡ ((r >>= λ x. option_at (list_at tag_at) x.1 >>= with_fields x.0) >>= made_tracked)
  go (Ok x) = behind x.0 (option_at (list_at tag_at) x.1)
  go (Err fault) = refl

pub manifest_format : IsFormat manifest_at manifest_of ManifestFits
manifest_format =
    let whole : IsFormat (made_at tracked (both_at fields_at (option_at (list_at tag_at)))) manifest_of ManifestFits = made_format tracked manifest_parts (λ x. refl) (λ m. refl) (both_format fields_format (option_format (list_format byte_format))) in
    record {
      takes = λ bytes x rest fits e. whole.takes bytes x rest fits (sym (manifest_at_is bytes) ∙ e);
      again = λ x rest fits. manifest_at_is (manifest_of x ++ rest) ∙ whole.again x rest fits;
    }

-- a manifest that the earlier version has no tracker for
abbrev pub UntrackedFits : Manifest → Type 0
UntrackedFits m = FieldsFit (field_parts m) × (m.sequence_tracker ≡ None)

pub untracked_format : IsFormat untracked_at untracked_of UntrackedFits
unfolding untracked_at
untracked_format = record {
  takes = λ bytes m rest fits e.
      let a = bind_ok (fields_at bytes) (λ x. Ok (untracked x.0, x.1)) (m, rest) e in
      let t = fields_format.takes bytes a.0.0 a.0.1 fits a.1 in
      let made : Manifest × List ℕ = (untracked a.0.0, a.0.1) in
      subst (λ (z : Manifest × List ℕ). Takes bytes (untracked_of z.0) z.1 × UntrackedFits z.0) (ok_is made (m, rest) a.2) (t.0, (t.1, refl));
  again = λ m rest fits.
      rw (fields_format.again (field_parts m) rest fits.0) (ap (λ (z : Option (List ℕ)). done (record m { sequence_tracker = z }, rest)) (sym fits.1));
}
