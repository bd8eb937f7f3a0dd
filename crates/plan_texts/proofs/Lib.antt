mod RowsOfHops
