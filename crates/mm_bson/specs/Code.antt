-- By what a proof tells two values apart.
use Rattle.std.specs.Prelude.{◌≡◌, ℕ, List}
use Rattle.std.proofs.Common.{ap, refl}
use Rattle.std.specs.Coded.{Coded, coded_list, coded_ℕ, coded_ℤ, coded_bool}
use base.Stored.{Gv, gnil, gnum, gcons}
use Rattle.mm_bson.specs.Tree.{Tree, int32, int64, string, document, array, min_key, null, binary, object_id, boolean, date, timestamp, max_key, Elements, no_elements, element, Values, no_values, item}

abbrev pub text_code : Coded (List ℕ)
text_code = coded_list coded_ℕ

abbrev mutual
  pub tree_gv : Tree → Gv
  tree_gv (int32 z) = gcons (gnum 0) (coded_ℤ.code z)
  tree_gv (int64 z) = gcons (gnum 1) (coded_ℤ.code z)
  tree_gv (string s) = gcons (gnum 2) (text_code.code s)
  tree_gv (document es) = gcons (gnum 3) (elements_gv es)
  tree_gv (array vs) = gcons (gnum 12) (values_gv vs)
  tree_gv min_key = gcons (gnum 4) gnil
  tree_gv null = gcons (gnum 5) gnil
  tree_gv (binary k bytes) = gcons (gnum 6) (gcons (gnum k) (text_code.code bytes))
  tree_gv (object_id bytes) = gcons (gnum 7) (text_code.code bytes)
  tree_gv (boolean b) = gcons (gnum 8) (coded_bool.code b)
  tree_gv (date z) = gcons (gnum 9) (coded_ℤ.code z)
  tree_gv (timestamp s i) = gcons (gnum 10) (gcons (gnum s) (gnum i))
  tree_gv max_key = gcons (gnum 11) gnil

  pub elements_gv : Elements → Gv
  elements_gv no_elements = gnil
  elements_gv (element name t es) = gcons (text_code.code name) (gcons (tree_gv t) (elements_gv es))

  pub values_gv : Values → Gv
  values_gv no_values = gnil
  values_gv (item t vs) = gcons (tree_gv t) (values_gv vs)

mutual
  pub tree_one : (x y : Tree) → tree_gv x ≡ tree_gv y → x ≡ y
  tree_one (int32 z) (int32 w) e = ap int32 (coded_ℤ.inj z w cc)
  tree_one (int64 z) (int64 w) e = ap int64 (coded_ℤ.inj z w cc)
  tree_one (string s) (string t) e = ap string (text_code.inj s t cc)
  tree_one (document es) (document fs) e = ap document (elements_one es fs cc)
  tree_one (array vs) (array ws) e = ap array (values_one vs ws cc)
  tree_one min_key min_key e = refl
  tree_one null null e = refl
  tree_one (binary k bytes) (binary l more) e =
      let kinds : k ≡ l = cc in
      let same : bytes ≡ more = text_code.inj bytes more cc in
      cc
  tree_one (object_id bytes) (object_id more) e = ap object_id (text_code.inj bytes more cc)
  tree_one (boolean b) (boolean c) e = ap boolean (coded_bool.inj b c cc)
  tree_one (date z) (date w) e = ap date (coded_ℤ.inj z w cc)
  tree_one (timestamp s i) (timestamp t j) e = cc
  tree_one max_key max_key e = refl
  tree_one _ _ e = cc

  pub elements_one : (x y : Elements) → elements_gv x ≡ elements_gv y → x ≡ y
  elements_one no_elements no_elements e = cc
  elements_one (element n t es) (element m u fs) e =
      let names : n ≡ m = text_code.inj n m cc in
      let values : t ≡ u = tree_one t u cc in
      let others : es ≡ fs = elements_one es fs cc in
      cc
  elements_one _ _ e = cc

  pub values_one : (x y : Values) → values_gv x ≡ values_gv y → x ≡ y
  values_one no_values no_values e = refl
  values_one (item t vs) (item u ws) e =
      let first : t ≡ u = tree_one t u cc in
      let others : vs ≡ ws = values_one vs ws cc in
      cc
  values_one _ _ e = cc

abbrev pub elements_code : Coded Elements
elements_code = record { code = elements_gv; inj = elements_one }

abbrev pub values_code : Coded Values
values_code = record { code = values_gv; inj = values_one }

abbrev pub documents_code : Coded (List Elements)
documents_code = coded_list elements_code
